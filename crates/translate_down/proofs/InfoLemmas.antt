-- What is told of streams is a value that stands in one line.
use Rattle.std.proofs.Common.{◌≡◌, ℕ, ◌<◌, ◌≤◌, ◌^◌, Bool, true, false, cond, not, ◌==◌, ◌&&◌, nat_le, List, [], ◌∷◌, ◌++◌, length, Option, None, Some, IfSome, flat_map, refl, sym, ◌∙◌, ap, append_assoc, arith}
use Rattle.std.specs.Prelude.{codes, decimal, option_map, option_and_then}
use Rattle.std.specs.List.{list_all}
use Rattle.std.specs.Str.{bytes_eq}
use Rattle.std.proofs.lemmas.Bool.{and_parts}
use Rattle.std.proofs.lemmas.List.{append-nil}
use Rattle.std.proofs.lemmas.List.Concat.{flat_map-append}
use Rattle.gate_bytes.specs.Tokens.{is_token, trimmed}
use Rattle.gate_bytes.specs.Places.{cut_at, parts_at}
use Rattle.gate_bytes.specs.Numbers.{number_in}
use Rattle.rtp_info.specs.declared.entry.InfoEntry.{InfoEntry}
use Rattle.rtp_info.specs.Parts.{is_last, with_first, each_read}
use Rattle.rtp_info.specs.Parameters.{Says, Seq, Time, Other, seq_of, time_of, parameter_with, parameter_of, Notes, first_seq, first_time, notes_of, read_parameters}
use Rattle.rtp_info.specs.Groups.{has_leading_blank, is_label, before_label, group_of, each_group, first_note, first_group, groups_of}
use Rattle.rtp_info.specs.Specs.{is_url_byte, is_url, spec_with, spec_of}
use Rattle.rtp_info.specs.Infos.{info_of}
use Rattle.rtp_info.specs.InfoText.{seq_text, time_text, entry_text, further_text, info_text}
use Rattle.rtsp_uri.specs.Swaps.{swapped}
use Rattle.translate_down.specs.Infos.{swapped_entry, swapped_entries}
use Rattle.translate_down.proofs.VisibleLemmas.{is_visible, visible_more, kind_visible, decimal_visible}
use Rattle.translate_down.proofs.ValueLemmas.{swapped_holds}

-- a number, where there is one, that a machine holds
abbrev Small : Option ℕ → Type 0
Small number = IfSome number (λ n. n < 2 ^ 64)

-- What holds of a chain of readings.
then_holds : {A B : Type 0} (P : B → Type 0) (f : A → Option B) (o : Option A) → ((x : A) → IfSome (f x) P) → IfSome (option_and_then f o) P
then_holds P f None h = tt
then_holds P f (Some x) h = h x

where_holds : {B : Type 0} (P : B → Type 0) (test : Bool) (o : Option B) → IfSome o P → IfSome (cond test o None) P
where_holds P true o h = h
where_holds P false o h = tt

-- a parameter's number is small
abbrev SmallSays : Says → Type 0
SmallSays (Seq n) = n < 2 ^ 64
SmallSays (Time n) = n < 2 ^ 64
SmallSays Other = Unit {0}

bounded : (most n : ℕ) → most < 2 ^ 64 → nat_le n most ≡ true → n < 2 ^ 64
bounded most n m h = let below : n ≤ most = grind (arith, h) in omega arith

seq_with : (n : ℕ) (test : Bool) → nat_le n 65535 ≡ test → IfSome (cond test (Some (Seq n)) None) SmallSays
seq_with n true e = bounded 65535 n (omega arith) e
seq_with n false e = tt

time_with : (n : ℕ) (test : Bool) → nat_le n 4294967295 ≡ test → IfSome (cond test (Some (Time n)) None) SmallSays
time_with n true e = bounded 4294967295 n (omega arith) e
time_with n false e = tt

value_small : (name value : List ℕ) (seq time other : Bool) →
    IfSome (cond seq (seq_of value) (cond time (time_of value) (cond other (Some Other) None))) SmallSays
value_small name value true time other = then_holds SmallSays (λ n. cond (nat_le n 65535) (Some (Seq n)) None) (number_in 5 value) (λ n. seq_with n (nat_le n 65535) refl)
value_small name value false true other = then_holds SmallSays (λ n. cond (nat_le n 4294967295) (Some (Time n)) None) (number_in 10 value) (λ n. time_with n (nat_le n 4294967295) refl)
value_small name value false false true = tt
value_small name value false false false = tt

parameter_small : (text : List ℕ) (parts : Option (List ℕ × List ℕ)) → IfSome (parameter_with text parts) SmallSays
parameter_small text None = where_holds SmallSays (is_token text && (not (bytes_eq text (codes "seq")) && not (bytes_eq text (codes "rtptime")))) (Some Other) tt
parameter_small text (Some parts) = value_small parts.0 parts.1 (bytes_eq parts.0 (codes "seq")) (bytes_eq parts.0 (codes "rtptime")) (is_token parts.0 && is_token parts.1)

-- all of a list
abbrev Each : {A : Type 0} → (A → Type 0) → List A → Type 0
Each P [] = Unit {0}
Each P (x ∷ xs) = P x × Each P xs

first_holds : {A : Type 0} (P : A → Type 0) (first : Option A) (others : Option (List A)) → IfSome first P → IfSome others (Each P) → IfSome (with_first first others) (Each P)
first_holds P None others f o = tt
first_holds P (Some x) None f o = tt
first_holds P (Some x) (Some xs) f o = (f, o)

each_holds : {A : Type 0} (P : A → Type 0) (read : List ℕ → Option A) (parts : List (List ℕ)) → ((part : List ℕ) → IfSome (read part) P) → IfSome (each_read read parts) (Each P)
each_holds P read [] h = tt
each_holds P read (part ∷ parts) h = first_holds P (read part) (each_read read parts) (h part) (each_holds P read parts h)

-- both numbers of a group are small
abbrev SmallNotes : Notes → Type 0
SmallNotes notes = Small notes.seq × Small notes.rtptime

seq_small : (parameters : List Says) → Each SmallSays parameters → Small (first_seq parameters)
seq_small [] h = tt
seq_small (Seq n ∷ more) h = h.0
seq_small (Time n ∷ more) h = seq_small more h.1
seq_small (Other ∷ more) h = seq_small more h.1

time_small : (parameters : List Says) → Each SmallSays parameters → Small (first_time parameters)
time_small [] h = tt
time_small (Seq n ∷ more) h = time_small more h.1
time_small (Time n ∷ more) h = h.0
time_small (Other ∷ more) h = time_small more h.1

noted_small : (read : Option (List Says)) → IfSome read (Each SmallSays) → IfSome (option_map notes_of read) SmallNotes
noted_small None h = tt
noted_small (Some parameters) h = (seq_small parameters h, time_small parameters h)

parameters_small : (text : List ℕ) → IfSome (read_parameters text) SmallNotes
parameters_small text =
    noted_small (each_read (λ part. parameter_of (trimmed part)) (parts_at 59 text))
    (each_holds SmallSays (λ part. parameter_of (trimmed part)) (parts_at 59 text) (λ part. parameter_small (trimmed part) (cut_at 61 (trimmed part))))

group_small : (last : Bool) (piece : List ℕ) → IfSome (group_of last piece) SmallNotes
group_small true piece = parameters_small piece
group_small false piece = then_holds SmallNotes read_parameters (before_label piece) parameters_small

pieces_small : (pieces : List (List ℕ)) → IfSome (each_group pieces) (Each SmallNotes)
pieces_small [] = tt
pieces_small (piece ∷ more) = first_holds SmallNotes (group_of (is_last more) (trimmed piece)) (each_group more) (group_small (is_last more) (trimmed piece)) (pieces_small more)

note_small : (groups : Option (List Notes)) → IfSome groups (Each SmallNotes) → IfSome (option_and_then first_note groups) SmallNotes
note_small None h = tt
note_small (Some []) h = tt
note_small (Some (notes ∷ more)) h = h.0

groups_small : (text : List ℕ) → IfSome (groups_of text) SmallNotes
groups_small text =
    then_holds SmallNotes (λ parts. cond (has_leading_blank parts.0 && is_label (trimmed parts.0)) (first_group (parts_at 58 parts.1)) None) (cut_at 58 text)
    (λ parts. where_holds SmallNotes (has_leading_blank parts.0 && is_label (trimmed parts.0)) (first_group (parts_at 58 parts.1)) (note_small (each_group (parts_at 58 parts.1)) (pieces_small (parts_at 58 parts.1))))

-- an entry whose URI is visible and whose numbers are small
abbrev SeenEntry : InfoEntry → Type 0
SeenEntry entry = (is_visible entry.url ≡ true) × Small entry.seq × Small entry.rtptime

url_visible : (url : List ℕ) → is_url url ≡ true → is_visible url ≡ true
url_visible url h = kind_visible is_url_byte url (λ b d. grind arith) (and_parts (not (length url == 0)) (list_all is_url_byte url) h).1

spec_with_seen : (url : List ℕ) (test : Bool) (notes : Option Notes) → is_url url ≡ test → IfSome notes SmallNotes →
    IfSome (cond test (option_map (λ (notes : Notes). record { url = url; seq = notes.seq; rtptime = notes.rtptime }) notes) None) SeenEntry
spec_with_seen url true None is h = tt
spec_with_seen url true (Some notes) is h = (url_visible url is, h.0, h.1)
spec_with_seen url false notes is h = tt

spec_seen : (text : List ℕ) → IfSome (spec_of text) SeenEntry
spec_seen text =
    then_holds SeenEntry (λ front. cond (bytes_eq front.0 (codes "url=")) (option_and_then (λ parts. spec_with parts.0 parts.1) (cut_at 34 front.1)) None) (cut_at 34 text)
    (λ front. where_holds SeenEntry (bytes_eq front.0 (codes "url=")) (option_and_then (λ parts. spec_with parts.0 parts.1) (cut_at 34 front.1))
    (then_holds SeenEntry (λ parts. spec_with parts.0 parts.1) (cut_at 34 front.1) (λ parts. spec_with_seen parts.0 (is_url parts.0) (groups_of parts.1) refl (groups_small parts.1))))

-- what was read is a list of such entries
info_seen : (value : List ℕ) → IfSome (info_of value) (Each SeenEntry)
info_seen value = each_holds SeenEntry (λ part. spec_of (trimmed part)) (parts_at 44 value) (λ part. spec_seen (trimmed part))

seq_visible : (seq : Option ℕ) → Small seq → is_visible (seq_text seq) ≡ true
seq_visible None h = refl
seq_visible (Some n) h = visible_more (codes ";seq=") (decimal n) refl (decimal_visible n h)

time_visible : (rtptime : Option ℕ) → Small rtptime → is_visible (time_text rtptime) ≡ true
time_visible None h = refl
time_visible (Some n) h = visible_more (codes ";rtptime=") (decimal n) refl (decimal_visible n h)

entry_visible : (from to : List ℕ) (entry : InfoEntry) → is_visible to ≡ true → SeenEntry entry → is_visible (entry_text (swapped_entry from to entry)) ≡ true
entry_visible from to entry base h =
    visible_more (codes "url=") ((swapped from to entry.url ++ seq_text entry.seq) ++ time_text entry.rtptime) refl
    (visible_more (swapped from to entry.url ++ seq_text entry.seq) (time_text entry.rtptime)
    (visible_more (swapped from to entry.url) (seq_text entry.seq) (swapped_holds (λ text. is_visible text ≡ true) from to entry.url (λ text v. v) base h.0) (seq_visible entry.seq h.1))
    (time_visible entry.rtptime h.2))

further_visible : (from to : List ℕ) (entries : List InfoEntry) → is_visible to ≡ true → Each SeenEntry entries →
    is_visible (flat_map further_text (swapped_entries from to entries)) ≡ true
further_visible from to [] base h = refl
further_visible from to (entry ∷ more) base h =
    visible_more (further_text (swapped_entry from to entry)) (flat_map further_text (swapped_entries from to more)) (entry_visible from to entry base h.0) (further_visible from to more base h.1)

entries_visible : (from to : List ℕ) (entries : List InfoEntry) → is_visible to ≡ true → Each SeenEntry entries → is_visible (info_text (swapped_entries from to entries)) ≡ true
entries_visible from to [] base h = refl
entries_visible from to (entry ∷ more) base h =
    visible_more (entry_text (swapped_entry from to entry)) (flat_map further_text (swapped_entries from to more)) (entry_visible from to entry base h.0) (further_visible from to more base h.1)

told_with : (from to : List ℕ) (entries : Option (List InfoEntry)) → is_visible to ≡ true → IfSome entries (Each SeenEntry) →
    IfSome (option_map (λ entries. info_text (swapped_entries from to entries)) entries) (λ text. is_visible text ≡ true)
told_with from to None base h = tt
told_with from to (Some entries) base h = entries_visible from to entries base h

-- what is told of the streams is visible
pub info_visible : (from to value : List ℕ) → is_visible to ≡ true →
    IfSome (option_map (λ entries. info_text (swapped_entries from to entries)) (info_of value)) (λ text. is_visible text ≡ true)
info_visible from to value base = told_with from to (info_of value) base (info_seen value)

-- An entry more stands behind a comma.
pub info_more : (entries : List InfoEntry) (entry : InfoEntry) → 0 < length entries → info_text (entries ++ entry ∷ []) ≡ info_text entries ++ further_text entry
info_more [] entry some = absurd (omega (arith, some))
info_more (first ∷ more) entry some =
    ap (λ (l : List ℕ). entry_text first ++ l) (flat_map-append further_text more (entry ∷ []) ∙ ap (λ (l : List ℕ). flat_map further_text more ++ l) (append-nil (further_text entry)))
    ∙ sym (append_assoc (entry_text first) (flat_map further_text more) (further_text entry))
