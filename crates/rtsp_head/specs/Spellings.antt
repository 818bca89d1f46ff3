-- How items are spelled on a stream, by cases on what they are (RFC 2326, 4 and 10.12; RFC 7826, 5 and 14).
-- These definitions read no stream: they say what is a spelling, and which items a stream has.
use Rattle.std.specs.Prelude.{◌≡◌, ℕ, ◌+◌, ◌*◌, ◌==◌, ◌<◌, ◌≤◌, Bool, true, false, List, [], ◌∷◌, ◌++◌, length, None, Ok, Err, if◌then◌else◌}
use Rattle.std.specs.List.{flat_map}
use Rattle.rtsp_head.specs.declared.facts.Length.{Length}
use Rattle.rtsp_head.specs.declared.facts.Length.TheVariants as lengths
use Rattle.rtsp_head.specs.declared.fault.HeadFault.{HeadFault}
use Rattle.rtsp_head.specs.declared.fault.HeadFault.TheVariants as faults
use Rattle.rtsp_head.specs.declared.item.BadKind.{BadKind}
use Rattle.rtsp_head.specs.declared.item.BadKind.TheVariants as bad
use Rattle.rtsp_head.specs.declared.item.ItemKind.{ItemKind}
use Rattle.rtsp_head.specs.declared.item.ItemKind.TheVariants.{Request, Response, Frame, Bad}
use Rattle.gate_bytes.specs.Ascii.{lf, cr, dollar}
use Rattle.gate_bytes.specs.Places.{place_of}
use Rattle.rtsp_head.specs.Heads.{facts_of}
use Rattle.rtsp_head.specs.declared.item.TheConstants.{MOST_BODY, MOST_HEAD}
use Rattle.rtsp_head.specs.Items.{Shape, begins_blank, is_bad}

-- an empty line: LF, or CR LF
abbrev pub empty_line : Bool → List ℕ
empty_line with_cr = if with_cr then cr ∷ lf ∷ [] else lf ∷ []

-- some empty lines
pub record AreEmptyLines (bytes : List ℕ) : Type 0 where
  pub ends : List Bool
  pub spelled : bytes ≡ flat_map empty_line ends

-- A frame: `$`, the channel, the length of the load with its greater byte first, and the load.
pub record IsFrame (bytes : List ℕ) : Type 0 where
  pub channel : ℕ
  pub high : ℕ
  pub low : ℕ
  pub load : List ℕ
  pub spelled : bytes ≡ dollar ∷ channel ∷ high ∷ low ∷ load
  pub counted : length load ≡ 256 * high + low

-- whether a frame begins here
abbrev pub begins_frame : List ℕ → Bool
begins_frame [] = false
begins_frame (b ∷ bytes) = b == dollar

-- What begins a message: no `$`, and no empty line.
pub record BeginsMessage (bytes : List ℕ) : Type 0 where
  pub no_frame : begins_frame bytes ≡ false
  pub no_empty_line : begins_blank bytes ≡ false

-- A line of a head without its LF: it holds none, and is neither nothing nor the CR of an end.
pub record IsLine (line : List ℕ) : Type 0 where
  pub no_lf : place_of lf line ≡ None
  pub not_nothing : line ≡ [] → ⊥
  pub not_cr : line ≡ cr ∷ [] → ⊥

-- each of these is a line
abbrev pub AreLines : List (List ℕ) → Type 0
AreLines [] = Unit {0}
AreLines (line ∷ lines) = IsLine line × AreLines lines

-- each line and its LF
abbrev pub with_ends : List (List ℕ) → List ℕ
with_ends lines = flat_map (λ line. line ++ lf ∷ []) lines

-- lines, and then an empty line
pub record EndsEmpty (bytes : List ℕ) : Type 0 where
  pub lines : List (List ℕ)
  pub last : Bool
  pub are_lines : AreLines lines
  pub spelled : bytes ≡ with_ends lines ++ empty_line last

-- A head is lines that end with the first empty line, and not longer than a head may be.
pub record IsHead (bytes : List ℕ) : Type 0 where
  pub begins : BeginsMessage bytes
  pub ends : EndsEmpty bytes
  pub fits : length bytes ≤ MOST_HEAD

-- whether a body of so many bytes follows a head that names this length
abbrev pub HasLength : Length → ℕ → Type 0
HasLength lengths.Absent n = n ≡ 0
HasLength (lengths.Bytes named) n = (n ≡ named) × (named ≤ MOST_BODY)
HasLength lengths.Bad n = ⊥

-- A request or another message: a sound head, and the body that it names.
pub record IsMessage (request : Bool) (bytes : List ℕ) (head_bytes : ℕ) : Type 0 where
  pub head : List ℕ
  pub body : List ℕ
  pub named : Length
  pub spelled : bytes ≡ head ++ body
  pub is_head : IsHead head
  pub counted : head_bytes ≡ length head
  pub sound : facts_of head ≡ Ok (record { request = request; length = named })
  pub whole : HasLength named (length body)

-- As many bytes as a head may have, and no empty line among them.
pub record IsEndless (bytes : List ℕ) : Type 0 where
  pub begins : BeginsMessage bytes
  pub endless : (front rest : List ℕ) → EndsEmpty front → bytes ≡ front ++ rest → ⊥
  pub full : length bytes ≡ MOST_HEAD

-- a head with this fault first
pub record HasFault (fault : HeadFault) (bytes : List ℕ) : Type 0 where
  pub is_head : IsHead bytes
  pub faulty : facts_of bytes ≡ Err fault

-- a sound head with a length that is none
pub record NamesNoLength (bytes : List ℕ) : Type 0 where
  pub request : Bool
  pub is_head : IsHead bytes
  pub sound : facts_of bytes ≡ Ok (record { request = request; length = lengths.Bad })

-- a sound head with a body that is too long
pub record NamesTooMuch (bytes : List ℕ) : Type 0 where
  pub request : Bool
  pub named : ℕ
  pub is_head : IsHead bytes
  pub sound : facts_of bytes ≡ Ok (record { request = request; length = lengths.Bytes named })
  pub too_much : MOST_BODY < named

-- how bytes of a Bad item of this kind are spelled
abbrev pub IsBad : BadKind → List ℕ → Type 0
IsBad bad.Head bytes = IsEndless bytes
IsBad bad.Control bytes = HasFault faults.Control bytes
IsBad bad.Start bytes = HasFault faults.Start bytes
IsBad bad.Colon bytes = HasFault faults.Colon bytes
IsBad bad.Name bytes = HasFault faults.Name bytes
IsBad bad.Many bytes = HasFault faults.Many bytes
IsBad bad.Length bytes = NamesNoLength bytes
IsBad bad.Body bytes = NamesTooMuch bytes

-- An item's kind, its bytes, and how many of them are its head.
abbrev pub IsItem : ItemKind → List ℕ → ℕ → Type 0
IsItem Frame bytes head = IsFrame bytes × (head ≡ 0)
IsItem Request bytes head = IsMessage true bytes head
IsItem Response bytes head = IsMessage false bytes head
IsItem (Bad kind) bytes head = IsBad kind bytes × (head ≡ length bytes)

-- Some empty lines, and then the bytes of the item.
pub record Spells (bytes : List ℕ) (item : Shape) : Type 0 where
  pub lines : List ℕ
  pub empty : AreEmptyLines lines
  pub spelled : bytes ≡ lines ++ item.bytes
  pub is_item : IsItem item.kind item.bytes item.head

-- no spelling of an item begins the stream
abbrev pub NoneBegins : List ℕ → Type 0
NoneBegins stream = (front rest : List ℕ) (item : Shape) → Spells front item → stream ≡ front ++ rest → ⊥

-- The item's spelling begins the stream, and what follows holds of the rest.
pub record Begins (stream : List ℕ) (item : Shape) (follows : List ℕ → Type 0) : Type 0 where
  pub front : List ℕ
  pub rest : List ℕ
  pub split : stream ≡ front ++ rest
  pub spelled : Spells front item
  pub later : follows rest

-- nothing follows a bad item
abbrev pub EndsAtBad : Bool → List Shape → Type 0 → Type 0
EndsAtBad true items more = items ≡ []
EndsAtBad false items more = more

-- The items of a stream: their spellings in a row begin it, no spelling begins the rest, and nothing
-- follows a bad item.
abbrev pub AreItems : List ℕ → List Shape → Type 0
AreItems stream [] = NoneBegins stream
AreItems stream (item ∷ items) = Begins stream item (λ rest. EndsAtBad (is_bad item.kind) items (AreItems rest items))
