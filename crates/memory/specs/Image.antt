-- The byte image: the memory that bytes handed in and an allowance of writes make.
use Rattle.std.specs.Prelude.{ℕ, ◌%◌, Bool, cond, ◌&&◌, List, map, length, take, nat_le}
use Rattle.memory.specs.Sizes.{places, byte_values, most_writes}
use Rattle.memory.specs.Model.{Mem}

-- It is fit with a byte for each place, or more, and an allowance up to the most.
abbrev pub image_fit : List ℕ → ℕ → Bool
image_fit bytes writes = nat_le places (length bytes) && nat_le writes most_writes

-- Byte p is place p. (The bytes handed in are below 256, so the remainder leaves them as they are.)
unfoldable pub image_bytes : List ℕ → List ℕ
image_bytes bytes = map (λ b. b % byte_values) (take places bytes)

-- The life is the writes still allowed; an unfit image takes none.
abbrev pub image : List ℕ → ℕ → Mem
image bytes writes = record {
  fit = image_fit bytes writes;
  bytes = image_bytes bytes;
  life = cond (image_fit bytes writes) writes 0;
}
