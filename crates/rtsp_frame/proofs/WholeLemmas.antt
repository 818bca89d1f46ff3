-- What is spelled is read, whatever follows it.
use Rattle.std.proofs.Common.{◌≡◌, ℕ, suc, ◌+◌, ◌*◌, ◌<◌, Bool, true, false, cond, ◌&&◌, ◌||◌, eqb, ltb, not, List, [], ◌∷◌, ◌++◌, length, take, drop, Some, None, refl, sym, ap, ◌∙◌, subst, arith, append_assoc}
use Rattle.std.specs.List.{flat_map}
use Rattle.std.specs.Option.{option_map}
use Rattle.std.proofs.lemmas.List.{append-nil, take_all, take_at, drop_at, length-append}
use Rattle.std.proofs.lemmas.Bool.{le-ltb, lt-ltb}
use Rattle.gate_bytes.specs.Ascii as ascii
use Rattle.rtsp_head.specs.Heads.{facts_of}
use Rattle.rtsp_head.specs.Items.{Shape, begins_with_lf, begins_blank, blank_lines, head_len, bad_span, when_whole, body_span, judged_span, headed_span, message_span, frame_span, span_of, first_extent, message_kind, bad_kind, shape_at}
use Rattle.rtsp_head.specs.Spellings.{empty_line, AreEmptyLines, IsFrame, begins_frame, EndsEmpty, IsHead, HasLength, IsMessage, IsEndless, HasFault, IsBad, IsItem, Spells}
use Rattle.rtsp_head.specs.declared.facts.Length.{Length}
use Rattle.rtsp_head.specs.declared.facts.Length.TheVariants as lengths
use Rattle.rtsp_head.specs.declared.fault.HeadFault.{HeadFault}
use Rattle.rtsp_head.specs.declared.fault.HeadFault.TheVariants as faults
use Rattle.rtsp_head.specs.declared.item.BadKind.{BadKind}
use Rattle.rtsp_head.specs.declared.item.BadKind.TheVariants as bad
use Rattle.rtsp_head.specs.declared.item.ItemKind.{ItemKind}
use Rattle.rtsp_head.specs.declared.item.ItemKind.TheVariants.{Request, Response, Frame, Bad}
use Rattle.rtsp_head.specs.declared.item.Span.{Span}
use Rattle.rtsp_head.specs.declared.item.Extent.{Extent}
use Rattle.rtsp_frame.proofs.HeadLemmas.{head_within_more, head_from_fits, decided}
use Rattle.rtsp_frame.proofs.LineLemmas.{blank_ends}
use Rattle.rtsp_frame.proofs.EndLemmas.{ends_len, endless_none}
use Rattle.rtsp_head.specs.declared.item.TheConstants.{MOST_BODY, MOST_HEAD}
use Rattle.rtsp_frame.proofs.ExtentLemmas.{when_whole_from, frame_of, first_more, extent_at, extent_parts}

-- the extent of an item that is all of the bytes
abbrev pub all_of : ItemKind → List ℕ → ℕ → Extent
all_of kind bytes head = record { skipped = 0; span = record { kind = kind; len = length bytes; head = head } }

-- Frames

frame_read : (bytes : List ℕ) → IsFrame bytes → first_extent bytes ≡ Some (all_of Frame bytes 0)
frame_read bytes h =
    let n = 256 * h.high + h.low in
    let all = ascii.dollar ∷ h.channel ∷ h.high ∷ h.low ∷ h.load in
    let come : length all ≡ 4 + n = omega (arith, h.counted) in
    let near : ltb (length all) 4 ≡ false = le-ltb (length all) 4 (omega arith) in
    subst (λ (l : List ℕ). first_extent l ≡ Some (all_of Frame l 0)) (sym h.spelled)
    (ap (λ (b : Bool). option_map (extent_at 0) (cond b None (when_whole (length all) (frame_of h.high h.low)))) near
    ∙ ap (option_map (extent_at 0)) (when_whole_from (length all) (frame_of h.high h.low) (omega arith))
    ∙ ap (λ (k : ℕ). Some (record { skipped = 0; span = record { kind = Frame; len = k; head = 0 } })) (sym come))

-- Messages

no_lone_cr : (ten cr : Bool) → (ten || (cr && false)) ≡ false → cond (ten && true) (Some 1) (option_map suc None) ≡ Some 1 → ⊥
no_lone_cr true cr h k = cc
no_lone_cr false cr h k = cc

-- a head is decided by its first byte
head_decided : (head : List ℕ) → begins_blank head ≡ false → head_len head ≡ Some (length head) → decided head ≡ true
head_decided [] h ends = cc
head_decided (b ∷ []) h ends = absurd (no_lone_cr (eqb b ascii.lf) (eqb b ascii.cr) h ends)
head_decided (b ∷ c ∷ head) h ends = refl

not_cr : (ten cr lf : Bool) → (cr ≡ false) → (ten || (cr && false)) ≡ false → (ten || (cr && lf)) ≡ false
not_cr ten true lf c h = cc
not_cr true false lf c h = h
not_cr false false lf c h = refl

flipped : (b : Bool) → not b ≡ true → b ≡ false
flipped true h = cc
flipped false h = refl

-- what begins no empty line begins none when more comes
begins_more : (xs ys : List ℕ) → decided xs ≡ true → begins_blank xs ≡ false → begins_blank (xs ++ ys) ≡ false
begins_more [] ys d h = cc
begins_more (b ∷ []) ys d h = not_cr (eqb b ascii.lf) (eqb b ascii.cr) (begins_with_lf ys) (flipped (eqb b ascii.cr) d) h
begins_more (b ∷ c ∷ xs) ys d h = h

message_front : (bytes : List ℕ) → begins_frame bytes ≡ false → 0 < length bytes → span_of bytes ≡ message_span bytes
message_front [] h pos = absurd (omega arith)
message_front (b ∷ bytes) h pos = ap (λ (t : Bool). cond t (frame_span (b ∷ bytes)) (message_span (b ∷ bytes))) h

frame_front : (xs ys : List ℕ) → 0 < length xs → begins_frame (xs ++ ys) ≡ begins_frame xs
frame_front [] ys pos = absurd (omega arith)
frame_front (b ∷ xs) ys pos = refl

-- a message with this span is the first item
message_read : (bytes : List ℕ) (s : Span) → begins_blank bytes ≡ false → begins_frame bytes ≡ false → 0 < length bytes → message_span bytes ≡ Some s → first_extent bytes ≡ Some (extent_at 0 s)
message_read bytes s blank frame pos h =
    ap (λ (n : ℕ). option_map (extent_at n) (span_of (drop n bytes))) (blank_ends bytes blank)
    ∙ ap (option_map (extent_at 0)) (message_front bytes frame pos ∙ h)

head_ends_at : (head : List ℕ) → EndsEmpty head → head_len head ≡ Some (length head)
head_ends_at head h = subst (λ (l : List ℕ). head_len l ≡ Some (length head)) (append-nil head) (ends_len head [] h)

-- the head of a message, whatever body follows
head_read : (head body : List ℕ) (s : Span) → IsHead head → judged_span (length (head ++ body)) (length head) (facts_of head) ≡ Some s → first_extent (head ++ body) ≡ Some (extent_at 0 s)
head_read head body s h judged =
    let ends = head_ends_at head h.ends in
    let pos : 0 < length head = (head_from_fits head true (length head) ends).0 in
    let found : head_len (take MOST_HEAD (head ++ body)) ≡ Some (length head) =
    head_within_more MOST_HEAD head body (length head) (ap head_len (take_all MOST_HEAD head h.fits) ∙ ends) in
    message_read (head ++ body) s
    (begins_more head body (head_decided head h.begins.no_empty_line ends) h.begins.no_empty_line)
    (frame_front head body pos ∙ h.begins.no_frame)
    (omega (arith, pos, length-append head body))
    (ap (headed_span (head ++ body)) found
    ∙ ap (λ (l : List ℕ). judged_span (length (head ++ body)) (length head) (facts_of l)) (take_at head body (length head) refl)
    ∙ judged)

-- a head alone
head_alone : (head : List ℕ) (s : Span) → IsHead head → judged_span (length head) (length head) (facts_of head) ≡ Some s → first_extent head ≡ Some (extent_at 0 s)
head_alone head s h judged =
    subst (λ (l : List ℕ). first_extent l ≡ Some (extent_at 0 s)) (append-nil head)
    (head_read head [] s h (subst (λ (l : List ℕ). judged_span (length l) (length head) (facts_of head) ≡ Some s) (sym (append-nil head)) judged))

body_read : (kind : ItemKind) (named : Length) (come n body : ℕ) → come ≡ n + body → HasLength named body → body_span kind come n named ≡ Some (record { kind = kind; len = come; head = n })
body_read kind lengths.Absent come n body e h =
    let same : come ≡ n = omega (arith, h) in
    when_whole_from come (record { kind = kind; len = n; head = n }) (omega arith)
    ∙ ap (λ (k : ℕ). Some (record { kind = kind; len = k; head = n })) (sym same)
body_read kind (lengths.Bytes named) come n body e h =
    let same : come ≡ n + named = omega (arith, h.0) in
    ap (λ (b : Bool). cond b (Some (bad_span bad.Body n)) (when_whole come (record { kind = kind; len = n + named; head = n }))) (le-ltb MOST_BODY named h.1)
    ∙ when_whole_from come (record { kind = kind; len = n + named; head = n }) (omega arith)
    ∙ ap (λ (k : ℕ). Some (record { kind = kind; len = k; head = n })) (sym same)
body_read kind lengths.Bad come n body e h = absurd h

whole_message : (request : Bool) (bytes : List ℕ) (n : ℕ) → IsMessage request bytes n → first_extent bytes ≡ Some (all_of (message_kind request) bytes n)
whole_message request bytes n h =
    subst (λ (k : ℕ). first_extent bytes ≡ Some (all_of (message_kind request) bytes k)) (sym h.counted)
    (subst (λ (l : List ℕ). first_extent l ≡ Some (all_of (message_kind request) l (length h.head))) (sym h.spelled)
    (head_read h.head h.body (record { kind = message_kind request; len = length (h.head ++ h.body); head = length h.head }) h.is_head
    (ap (judged_span (length (h.head ++ h.body)) (length h.head)) h.sound
    ∙ body_read (message_kind request) h.named (length (h.head ++ h.body)) (length h.head) (length h.body) (length-append h.head h.body) h.whole)))

-- Bad items

fault_read : (fault : HeadFault) (bytes : List ℕ) → HasFault fault bytes → first_extent bytes ≡ Some (all_of (Bad (bad_kind fault)) bytes (length bytes))
fault_read fault bytes h =
    head_alone bytes (bad_span (bad_kind fault) (length bytes)) h.is_head (ap (judged_span (length bytes) (length bytes)) h.faulty)

endless_read : (bytes : List ℕ) → IsEndless bytes → first_extent bytes ≡ Some (all_of (Bad bad.Head) bytes (length bytes))
endless_read bytes h =
    let none : head_len (take MOST_HEAD bytes) ≡ None = ap head_len (take_all MOST_HEAD bytes (omega (arith, h.full))) ∙ endless_none bytes h.endless in
    message_read bytes (bad_span bad.Head (length bytes)) h.begins.no_empty_line h.begins.no_frame (omega (arith, h.full))
    (ap (headed_span bytes) none
    ∙ ap (λ (b : Bool). cond b None (Some (bad_span bad.Head MOST_HEAD))) (le-ltb (length bytes) MOST_HEAD (omega (arith, h.full)))
    ∙ ap (λ (k : ℕ). Some (bad_span bad.Head k)) (sym h.full))

bad_read : (kind : BadKind) (bytes : List ℕ) → IsBad kind bytes → first_extent bytes ≡ Some (all_of (Bad kind) bytes (length bytes))
bad_read bad.Head bytes h = endless_read bytes h
bad_read bad.Control bytes h = fault_read faults.Control bytes h
bad_read bad.Start bytes h = fault_read faults.Start bytes h
bad_read bad.Colon bytes h = fault_read faults.Colon bytes h
bad_read bad.Name bytes h = fault_read faults.Name bytes h
bad_read bad.Many bytes h = fault_read faults.Many bytes h
bad_read bad.Length bytes h =
    head_alone bytes (bad_span bad.Length (length bytes)) h.is_head (ap (judged_span (length bytes) (length bytes)) h.sound)
bad_read bad.Body bytes h =
    head_alone bytes (bad_span bad.Body (length bytes)) h.is_head
    (ap (judged_span (length bytes) (length bytes)) h.sound
    ∙ ap (λ (b : Bool). cond b (Some (bad_span bad.Body (length bytes))) (when_whole (length bytes) (record { kind = message_kind h.request; len = length bytes + h.named; head = length bytes }))) (lt-ltb MOST_BODY h.named h.too_much))

-- an item alone is the first item, and all of it
pub item_read : (kind : ItemKind) (bytes : List ℕ) (head : ℕ) → IsItem kind bytes head → first_extent bytes ≡ Some (all_of kind bytes head)
item_read Frame bytes head h = frame_read bytes h.0 ∙ ap (λ (k : ℕ). Some (all_of Frame bytes k)) (sym h.1)
item_read Request bytes head h = whole_message true bytes head h
item_read Response bytes head h = whole_message false bytes head h
item_read (Bad kind) bytes head h = bad_read kind bytes h.0 ∙ ap (λ (k : ℕ). Some (all_of (Bad kind) bytes k)) (sym h.1)

-- Empty lines before it

blank_before : (ends : List Bool) (bytes : List ℕ) → blank_lines (flat_map empty_line ends ++ bytes) ≡ length (flat_map empty_line ends) + blank_lines bytes
blank_before [] bytes = omega arith
blank_before (true ∷ ends) bytes =
    let more = blank_before ends bytes in
    ap (λ (n : ℕ). suc (suc n)) more ∙ omega arith
blank_before (false ∷ ends) bytes =
    let more = blank_before ends bytes in
    ap suc more ∙ omega arith

lines_before : (lines bytes : List ℕ) (s : Span) → AreEmptyLines lines → first_extent bytes ≡ Some (extent_at 0 s) → first_extent (lines ++ bytes) ≡ Some (extent_at (length lines) s)
lines_before lines bytes s empty h =
    let parts = extent_parts bytes (extent_at 0 s) h in
    let none : blank_lines bytes ≡ 0 = ap (λ (e : Extent). e.skipped) parts.2 in
    let same : parts.0 ≡ s = ap (λ (e : Extent). e.span) parts.2 in
    let read : span_of bytes ≡ Some s =
    ap (λ (n : ℕ). span_of (drop n bytes)) (sym none) ∙ parts.1 ∙ ap (λ (x : Span). Some x) same in
    let before : blank_lines (lines ++ bytes) ≡ length lines =
    ap (λ (l : List ℕ). blank_lines (l ++ bytes)) empty.spelled
    ∙ blank_before empty.ends bytes
    ∙ omega (arith, ap length empty.spelled, none) in
    ap (λ (n : ℕ). option_map (extent_at n) (span_of (drop n (lines ++ bytes)))) before
    ∙ ap (λ (l : List ℕ). option_map (extent_at (length lines)) (span_of l)) (drop_at lines bytes (length lines) refl)
    ∙ ap (option_map (extent_at (length lines))) read

-- Where an item of a stream stands, by its spelling.
pub record StandsFirst (stream front rest : List ℕ) (item : Shape) : Type 0 where
  pub extent : Extent
  pub found : first_extent stream ≡ Some extent
  pub item_is : shape_at stream extent ≡ item
  pub rest_is : drop (extent.skipped + extent.span.len) stream ≡ rest

-- What is spelled at the front of a stream is its first item.
pub spelled_first : (front rest : List ℕ) (item : Shape) → Spells front item → StandsFirst (front ++ rest) front rest item
spelled_first front rest item h =
    let span : Span = record { kind = item.kind; len = length item.bytes; head = item.head } in
    let alone : first_extent (h.lines ++ item.bytes) ≡ Some (extent_at (length h.lines) span) =
    lines_before h.lines item.bytes span h.empty (item_read item.kind item.bytes item.head h.is_item) in
    let all : first_extent front ≡ Some (extent_at (length h.lines) span) = ap first_extent h.spelled ∙ alone in
    let parted : front ++ rest ≡ h.lines ++ (item.bytes ++ rest) =
    ap (λ (l : List ℕ). l ++ rest) h.spelled ∙ append_assoc h.lines item.bytes rest in
    let behind : drop (length h.lines) (front ++ rest) ≡ item.bytes ++ rest =
    ap (drop (length h.lines)) parted ∙ drop_at h.lines (item.bytes ++ rest) (length h.lines) refl in
    record {
      extent = extent_at (length h.lines) span;
      found = first_more front rest (extent_at (length h.lines) span) all;
      item_is =
          ap (λ (l : List ℕ). record { kind = item.kind; bytes = take (length item.bytes) l; head = item.head }) behind
          ∙ ap (λ (l : List ℕ). record { kind = item.kind; bytes = l; head = item.head }) (take_at item.bytes rest (length item.bytes) refl);
      rest_is =
          drop_at front rest (length h.lines + length item.bytes)
          (ap length h.spelled ∙ length-append h.lines item.bytes);
    }
