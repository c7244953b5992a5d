-- How far each frame of a recording moves. In this order: the places of a recording, and where a place stands in a list of them;
-- displacements; the same as the code writes them, unit by unit.
-- Quotes are from docs/FORMAT.md.
use Rattle.std.specs.Prelude.{ℕ, ◌+◌, cond, List, [], ◌∷◌, map, eqb, ℤ, pos, ◌-ℤ◌, ◌+ℤ◌, set}
use Rattle.serial.specs.Order.{in_serial_order}

-- The places of a recording from i on.
unfoldable pub places_from : ℕ → List ℕ → List ℕ
places_from i [] = []
places_from i (w ∷ ws) = i ∷ places_from (i + 1) ws

abbrev pub places : List ℕ → List ℕ
places ws = places_from 0 ws

-- Where p stands first in a list of places.
unfoldable pub index_of : ℕ → List ℕ → ℕ
index_of p [] = 0
index_of p (q ∷ qs) = cond (eqb q p) 0 (index_of p qs + 1)

-- "The displacement of a frame is its place in the serial order less its place in the recording: negative where it moved earlier and 0 where
-- it stayed."
abbrev pub displacement : ℕ → ℕ → ℤ
displacement k p = pos k -ℤ pos p

-- The frames by their places, in the serial order: the one definition of the order, applied to the places.
abbrev pub ordered_places : List ℕ → List ℕ → List ℕ
ordered_places guards ws = in_serial_order guards ws (places ws)

-- "entry p is that of the frame recorded at place p"
unfoldable pub displacements : List ℕ → List ℕ → List ℤ
displacements guards ws = map (λ p. displacement (index_of p (ordered_places guards ws)) p) (places ws)

-- "The displacements add up to 0"
unfoldable pub total : List ℤ → ℤ
total [] = pos 0
total (d ∷ ds) = d +ℤ total ds

-- The displacements of the frames recorded at the places ps, which stand in the order from place k on, each written to its frame's entry.
unfoldable pub moved : ℕ → List ℕ → List ℤ → List ℤ
moved k [] out = out
moved k (p ∷ ps) out = moved (k + 1) ps (set out p (displacement k p))
