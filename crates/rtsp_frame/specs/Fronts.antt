-- What is known of an item that has come in part, and how many bytes of it belong to a head that has no end yet.
use Rattle.std.specs.Prelude.{◌≡◌, ◌≢◌, ℕ, ◌+◌, ◌-◌, ◌<◌, ◌≤◌, ◌==◌, slice_index, false, List, [], ◌∷◌, ◌++◌, length, take, drop, Option, Some, None, if◌then◌else◌}
use Rattle.std.specs.Option.{option_map}
use Rattle.gate_bytes.specs.Ascii.{lf, dollar}
use Rattle.gate_bytes.specs.Places.{place_of}
use Rattle.rtsp_head.specs.Items.{begins_blank, head_len, when_whole, first_extent, is_bad}
use Rattle.rtsp_head.specs.declared.item.Span.{Span}
use Rattle.rtsp_head.specs.declared.item.TheConstants.{MOST_HEAD}
use Rattle.rtsp_frame.specs.declared.item_front.ItemFront.{ItemFront}
use Rattle.rtsp_frame.specs.declared.item_front.ItemFront.TheVariants.{Nothing, Frame, Line, End}

-- so many bytes, where the head among them has no end
abbrev pub if_endless : Option ℕ → ℕ → ℕ
if_endless None n = n
if_endless (Some k) n = 0

-- The length of the unfinished head that these bytes are; 0 in a body, in a frame and between items.
abbrev pub unfinished_head : List ℕ → ℕ
unfinished_head [] = 0
unfinished_head (b ∷ bytes) = if b == dollar then 0 else if_endless (head_len (b ∷ bytes)) (length (b ∷ bytes))

-- the same of what is held, if the stream goes on
abbrev pub unfinished_of : Option (List ℕ) → ℕ
unfinished_of None = 0
unfinished_of (Some bytes) = unfinished_head bytes

-- how many of so many bytes are an unfinished head
abbrev pub head_held : ItemFront → ℕ → ℕ
head_held Nothing n = n
head_held Frame n = 0
head_held (Line line) n = n
head_held (End span) n = 0

-- A message begins with these bytes, whatever follows them.
pub record OpensMessage (bytes : List ℕ) : Type 0 where
  pub some : 0 < length bytes
  pub full : (more : List ℕ) → begins_blank (bytes ++ more) ≡ false
  pub other : slice_index bytes 0 ≢ dollar

-- A line of a head begins at this place, and no LF stands in it up to another.
pub record IsLineTo (bytes : List ℕ) (line to : ℕ) : Type 0 where
  pub within : to ≤ length bytes
  pub order : line ≤ to
  pub lines : (more : List ℕ) → head_len (take line bytes ++ more) ≡ option_map (λ k. line + k) (head_len more)
  pub no_end : place_of lf (take (to - line) (drop line bytes)) ≡ None

-- a head that goes on, whose last line begins at this place
pub record IsHeadFront (bytes : List ℕ) (line : ℕ) : Type 0 where
  pub begins : OpensMessage bytes
  pub reached : IsLineTo bytes line (length bytes)
  pub short : length bytes < MOST_HEAD

-- the front of this item, whatever follows
pub record IsItemFront (bytes : List ℕ) (span : Span) : Type 0 where
  pub first : (more : List ℕ) → first_extent (bytes ++ more) ≡ option_map (λ s. record { skipped = 0; span = s }) (when_whole (length (bytes ++ more)) span)
  pub short : length bytes < span.len
  pub full : (more : List ℕ) → begins_blank (bytes ++ more) ≡ false
  pub done : (more : List ℕ) → unfinished_head (bytes ++ more) ≡ 0
  pub sound : is_bad span.kind ≡ false

-- the front of a frame of which the length has not come
pub record IsFrameShort (bytes : List ℕ) : Type 0 where
  pub begins : slice_index bytes 0 ≡ dollar
  pub some : 0 < length bytes
  pub short : length bytes < 4

-- at most a CR, which counts as a head that goes on
pub record IsNextToNothing (bytes : List ℕ) : Type 0 where
  pub short : length bytes ≤ 1
  pub all : unfinished_head bytes ≡ length bytes

-- what is known of these bytes holds of them
abbrev pub IsKnownFront : List ℕ → ItemFront → Type 0
IsKnownFront bytes Nothing = IsNextToNothing bytes
IsKnownFront bytes Frame = IsFrameShort bytes
IsKnownFront bytes (Line line) = IsHeadFront bytes line
IsKnownFront bytes (End span) = IsItemFront bytes span
