-- The frame that may be handed in next on a link.
use Rattle.std.specs.Prelude.{ℕ, ◌-◌, Bool, ◌==◌, ◌&&◌, List, ◌++◌, length, take, replicate, nat_eq}
use Rattle.std.specs.List.{starts_with}

-- the first bytes of a frame, of which at most 11 are kept, and its length
pub record LookedView : Type 0 where
  pub head : List ℕ
  pub length : ℕ

-- these bytes, and as many zeros as make 11 bytes of them
abbrev pub padded : List ℕ → List ℕ
padded head = head ++ replicate (11 - length head) 0

-- what is kept of a frame of this length that begins with these bytes
abbrev pub looked_of : List ℕ → ℕ → LookedView
looked_of head size = record { head = take 11 head; length = size }

-- this is the frame: it has that length, and begins with those bytes
abbrev pub is_frame_of : LookedView → List ℕ → Bool
is_frame_of v frame = (length frame == v.length) && starts_with nat_eq frame v.head
