-- What a read takes from contents and a write adds to them. Contents are told (Some) or not (None). This project's own.
use Rattle.std.specs.Prelude.{◌≡◌, ℕ, ◌<◌, ◌≤◌, List, [], ◌++◌, length, take, drop, Option, Some, None, Result, Ok, Err}

-- A read took the first n of these bytes and put them in front of the buffer; it took none only where none is left.
pub record TakesFront (bytes : List ℕ) (now : Option (List ℕ)) (n : ℕ) (buffer : List ℕ) : Type 0 where
  pub within : n ≤ length bytes
  pub front : take n buffer ≡ take n bytes
  pub left : now ≡ Some (drop n bytes)
  pub end : n ≡ 0 → bytes ≡ []

-- A read gave n bytes: the first of those left, where they are told, and untold ones stay untold.
abbrev pub ReadsOk : Option (List ℕ) → Option (List ℕ) → ℕ → List ℕ → Type 0
ReadsOk None now n buffer = now ≡ None
ReadsOk (Some bytes) now n buffer = TakesFront bytes now n buffer

-- What a read did to the bytes left: a failed one took nothing.
abbrev pub Reads : {E : Type 0} → Option (List ℕ) → Option (List ℕ) → Result ℕ E → List ℕ → Type 0
Reads before now (Ok n) buffer = ReadsOk before now n buffer
Reads before now (Err e) buffer = now ≡ before

-- What was written has these bytes more at its end, where it is told, and untold contents stay untold.
abbrev pub Grows : Option (List ℕ) → Option (List ℕ) → List ℕ → Type 0
Grows None now more = now ≡ None
Grows (Some before) now more = now ≡ Some (before ++ more)

-- A write took n bytes, at least one: the first of the piece.
pub record WritesOk (before now : Option (List ℕ)) (piece : List ℕ) (n : ℕ) : Type 0 where
  pub some : 0 < n
  pub within : n ≤ length piece
  pub grown : Grows before now (take n piece)

-- What a write did to what was written: a failed one wrote nothing.
abbrev pub Writes : {E : Type 0} → Option (List ℕ) → Option (List ℕ) → List ℕ → Result ℕ E → Type 0
Writes before now piece (Ok n) = WritesOk before now piece n
Writes before now piece (Err e) = now ≡ before

-- A link took the first n bytes of the piece, maybe none.
pub record OffersOk (before now : Option (List ℕ)) (piece : List ℕ) (n : ℕ) : Type 0 where
  pub within : n ≤ length piece
  pub grown : Grows before now (take n piece)

-- What an offer did to what was written: a failed one wrote nothing.
abbrev pub Offers : {E : Type 0} → Option (List ℕ) → Option (List ℕ) → List ℕ → Result ℕ E → Type 0
Offers before now piece (Ok n) = OffersOk before now piece n
Offers before now piece (Err e) = now ≡ before

-- Some front of these bytes was written and the rest was not.
pub record GrowsByFront (before now : Option (List ℕ)) (bytes : List ℕ) : Type 0 where
  pub front : List ℕ
  pub rest : List ℕ
  pub whole : front ++ rest ≡ bytes
  pub grown : Grows before now front

-- What a write of a whole text did: all of it was written, or, where it failed, a front of it.
abbrev pub WritesAll : {T E : Type 0} → Option (List ℕ) → Option (List ℕ) → List ℕ → Result T E → Type 0
WritesAll before now bytes (Ok u) = Grows before now bytes
WritesAll before now bytes (Err e) = GrowsByFront before now bytes
