-- A piece ends no more items than it has bytes.
use Rattle.std.proofs.Common.{◌≡◌, ℕ, zero, suc, ◌+◌, ◌≤◌, ◌<◌, Bool, true, false, List, [], ◌++◌, length, take, drop, Option, Some, None, ◌⊎◌, refl, sym, ap, ◌∙◌, subst, arith, take-append-drop, inl, inr}
use Rattle.std.proofs.lemmas.List.{append-nil, length-append, length-drop, take-append-le, nil_from_length}
use Rattle.std.proofs.lemmas.Bool.{cases_lt}
use Rattle.std.specs.Option.{unwrap_or}
use Rattle.rtsp_head.specs.Items.{Shape, Cut, shape_at, first_extent, is_bad, behind, cut_with, cut_by, cut, items_of}
use Rattle.rtsp_head.specs.Spellings.{AreItems}
use Rattle.rtsp_head.specs.declared.item.Extent.{Extent}
use Rattle.rtsp_frame.specs.FramerState.{HeldBytes, Framed}
use Rattle.rtsp_frame.proofs.ExtentLemmas.{first_is}
use Rattle.rtsp_frame.proofs.CutLemmas.{joined_rest, cut_step, cut_append}
use Rattle.rtsp_frame.proofs.SpellLemmas.{first_spelled}
use Rattle.rtsp_frame.proofs.AreItemsLemmas.{items_are}
use Rattle.drill_server.specs.ServerSteps.{IsDrained}

-- one item more at most, whether it is bad or not
behind_few : (bad : Bool) (shape : Shape) (later : Cut) (n : ℕ) → length later.items ≤ n → length (behind bad shape later).items ≤ suc n
behind_few true shape later n h = omega arith
behind_few false shape later n h = omega (arith, h)

-- so many turns give so many items at most
turn_few : (n : ℕ) (o : Option Extent) (bytes : List ℕ) → ((left : List ℕ) → length (cut_by n left).items ≤ n) → length (cut_with o bytes (cut_by n)).items ≤ suc n
turn_few n None bytes few = omega arith
turn_few n (Some e) bytes few =
    behind_few (is_bad e.span.kind) (shape_at bytes e) (cut_by n (drop (e.skipped + e.span.len) bytes)) n (few (drop (e.skipped + e.span.len) bytes))

turns_few : (n : ℕ) (bytes : List ℕ) → length (cut_by n bytes).items ≤ n
turns_few zero bytes = omega arith
turns_few (suc n) bytes = turn_few n (first_extent bytes) bytes (turns_few n)

-- no more items than bytes
items_few : (bytes : List ℕ) → length (items_of bytes) ≤ length bytes
items_few bytes = turns_few (length bytes) bytes

-- the first item of bytes that hold none, and of a piece, ends in the piece
ends_behind : (held piece : List ℕ) (e : Extent) → items_of held ≡ [] → first_extent (held ++ piece) ≡ Some e → e.skipped + e.span.len ≤ length held → ⊥
ends_behind held piece e none at within =
    let n = e.skipped + e.span.len in
    let front : take n (held ++ piece) ≡ take n held = take-append-le n held piece within in
    (subst (λ (l : List Shape). AreItems held l) none (items_are held)) (take n (held ++ piece)) (drop n held) (shape_at (held ++ piece) e) (first_spelled (held ++ piece) e at)
    (sym (take-append-drop n held) ∙ ap (λ (l : List ℕ). l ++ drop n held) (sym front))

-- which of two numbers is greater, where one is not within the other
beyond : (n most : ℕ) → (most < n) ⊎ (n ≤ most) → (n ≤ most → ⊥) → most < n
beyond n most (inl h) never = h
beyond n most (inr h) never = absurd (never h)

few_ended_by : (held piece : List ℕ) (o : Option Extent) → items_of held ≡ [] → first_extent (held ++ piece) ≡ o → length (cut_with o (held ++ piece) cut).items ≤ length piece
few_ended_by held piece None none at = omega arith
few_ended_by held piece (Some e) none at =
    let n = e.skipped + e.span.len in
    let left = drop n (held ++ piece) in
    let few = behind_few (is_bad e.span.kind) (shape_at (held ++ piece) e) (cut left) (length left) (items_few left) in
    let late = beyond n (length held) (cases_lt (length held) n) (ends_behind held piece e none at) in
    let fits = (first_is (held ++ piece) e at).fits in
    omega (arith, few, late, fits, length-drop n (held ++ piece), length-append held piece)

-- bytes that hold no item, and a piece
few_ended : (held piece : List ℕ) → items_of held ≡ [] → length (items_of (held ++ piece)) ≤ length piece
few_ended held piece none =
    subst (λ (c : Cut). length c.items ≤ length piece) (sym (cut_step (held ++ piece))) (few_ended_by held piece (first_extent (held ++ piece)) none refl)

-- what is behind the items of a stream holds none
rest_by : (items : List Shape) (rest : Option (List ℕ)) (held : List ℕ) → rest ≡ Some held → items ≡ (joined_rest items rest []).items → items_of held ≡ []
rest_by items None held some same = cc some
rest_by items (Some rest) held some same =
    let is : rest ≡ held = ap (λ (o : Option (List ℕ)). unwrap_or o []) some in
    ap items_of (sym is) ∙ ap items_of (sym (append-nil rest)) ∙ nil_from_length (items_of (rest ++ [])) (omega (arith, ap length same, length-append items (items_of (rest ++ []))))

rest_holds_none : (stream held : List ℕ) → (cut stream).rest ≡ Some held → items_of held ≡ []
rest_holds_none stream held some =
    rest_by (cut stream).items (cut stream).rest held some (ap items_of (sym (append-nil stream)) ∙ ap (λ (c : Cut). c.items) (cut_append stream []))

few_by : (items : List Shape) (rest : Option (List ℕ)) (piece : List ℕ) → ((held : List ℕ) → rest ≡ Some held → items_of held ≡ []) → length (joined_rest items rest piece).items ≤ length items + length piece
few_by items None piece none = omega arith
few_by items (Some held) piece none = omega (arith, few_ended held piece (none held refl), length-append items (items_of (held ++ piece)))

-- A piece ends no more items than it has bytes.
pub few_added : (stream piece : List ℕ) → length (items_of (stream ++ piece)) ≤ length (items_of stream) + length piece
few_added stream piece =
    subst (λ (c : Cut). length c.items ≤ length (items_of stream) + length piece) (sym (cut_append stream piece))
    (few_by (cut stream).items (cut stream).rest piece (rest_holds_none stream))

-- What a framer that gave all its items has to give once it was fed.
pub few_waiting : (old new : HeldBytes) (piece : List ℕ) → IsDrained old → ((stream : List ℕ) (given : List Shape) → Framed old stream given → Framed new (stream ++ piece) given) → length new.waiting ≤ length piece
few_waiting old new piece drained feeds =
    let fed = feeds drained.stream (items_of drained.stream) drained.framed in
    omega (arith, few_added drained.stream piece, ap length fed.items, length-append (items_of drained.stream) new.waiting)
