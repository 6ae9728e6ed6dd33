-- `admit` meets its contract: there are 32 images at most. Assumes nothing.
use native.Mathlib.Omega.{arith}
use Rattle.record_layout.proofs.Sound.{sound_sized, sound_long}
use Rattle.directory_writer.proofs.admit.Goals as goal

pub image_count-images-requires : goal.image_count-images-requires
image_count-images-requires c = sound_long c.args.r.now c.requires

pub overflow_mul-images : goal.overflow_mul-images
overflow_mul-images c = omega (arith, c.image_count-images.ensures, (sound_sized c.args.r.now c.requires).images_high)

pub overflow_mul-images-2 : goal.overflow_mul-images-2
overflow_mul-images-2 c = omega (arith, c.image_count-images.ensures, (sound_sized c.args.r.now c.requires).images_high)

pub overflow_add-images : goal.overflow_add-images
overflow_add-images c = omega (arith, c.image_count-images.ensures, (sound_sized c.args.r.now c.requires).images_high)
