-- What gathering answers and what the window holds afterwards (G12 to G15, N105, N108). w is the window's bytes at
-- entry, B the address of the first, `first` the first descriptor's address, ds the addresses of the descriptors read,
-- and total what their lengths add up to. Assumes nothing.
use Rattle.std.specs.Prelude.{ℕ, ◌-◌, cond, List, Option, Some, None, Result, Ok, Err, eqb}
use Rattle.fields.specs.Number.{put}
use Rattle.refusals.specs.Number.{number_of}
use Rattle.refusals.specs.declared.Refusal.{Refusal}
use Rattle.refusals.specs.declared.Refusal.TheVariants.{TotalZero, NoPlace}
use Rattle.gather_descriptors.specs.Reading.{Reading, refused, whole, reading}
use Rattle.gather_place.specs.Place.{place_for}
use Rattle.gather_blocks.specs.Blocks.{blocks}
use Rattle.gather.specs.declared.Gathered.{Gathered}

-- the answer: a refusal's number; or the place's address and how many bytes stand there
pub data Answer : Type 0 where
  refusal : (number : ℕ) → Answer
  place : (address total : ℕ) → Answer

-- what each case of the entry's answer states
abbrev pub answer_of : Result Gathered Refusal → Answer
answer_of (Ok found) = place found.address found.total
answer_of (Err n) = refusal (number_of n)

-- a place: the blocks go there, and every byte outside it stays (G13, G14). None: N7, and no byte altered
unfoldable pub copied_to : Option ℕ → List ℕ → ℕ → ℕ → List ℕ → Answer × List ℕ
copied_to (Some p) w B total ds = (place p total, put w (p - B) (blocks w B ds))
copied_to None w B total ds = (refusal (number_of NoPlace), w)

-- a list that was refused: its number, and no byte altered. A list read whole: N6, then N7
unfoldable pub finished : List ℕ → ℕ → Reading → Answer × List ℕ
finished w B (refused n) = (refusal (number_of n), w)
finished w B (whole total ds) =
    cond (eqb total 0) (refusal (number_of TotalZero), w) (copied_to (place_for w B total ds) w B total ds)

-- the answer, and the window afterwards
unfoldable pub gathered : List ℕ → ℕ → ℕ → Answer × List ℕ
gathered w B first = finished w B (reading w B first)
