-- What the packer's functions take, read as what is lent: the bytes that each slice holds. Assumes nothing.
use Rattle.capsule_contents.specs.declared.Lending.{Lending}
use Rattle.capsule_contents.specs.Lent.{Lent, lent}

abbrev pub given : Lending → Lent
given x = lent x.flags x.drivers.now x.driver_table.now x.images.now x.codes.now x.payload_table.now
