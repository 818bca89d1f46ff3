use Rattle.std.proofs.Common.{◌≡◌, ℕ, ◌+◌, ◌<◌, List, [], ◌∷◌, ◌++◌, map, take, length, length-take-le, slice_get, Some, sym, ap, ◌∙◌, append_assoc, arith}
use Rattle.std.proofs.lemmas.List.{map_more, append-nil, length-map}
use Rattle.std.proofs.lemmas.Option.{slice_get_within, get_or_from_slice_get}
use Rattle.gate_bytes.specs.Ascii.{comma}
use Rattle.rtp_info.specs.InfoText.{entry_text, info_text}
use Rattle.translate_down.specs.Infos.{swapped_entry}
use Rattle.translate_down.proofs.InfoLemmas.{info_more}
use Rattle.translate_down.proofs.info.swapped.Goals as goal

-- one element more
map_step : {X Y : Type 0} (f : X → Y) (xs : List X) (i : ℕ) (x : X) → slice_get xs i ≡ Some x → map f (take (i + 1) xs) ≡ map f (take i xs) ++ f x ∷ []
map_step f xs i x at = map_more f xs i x (slice_get_within xs i x at) ∙ ap (λ y. map f (take i xs) ++ f y ∷ []) (get_or_from_slice_get xs i x x at)

pub loop-place-init : goal.loop-place-init
loop-place-init c =
    let told = swapped_entry c.args.bases.now.up.text c.args.bases.now.front.text in
    let entry = c.at.result.now in
    c.in_ok-push_swapped.ensures
    ∙ ap (λ (t : List ℕ). t ++ entry_text (told entry)) c.in_ok-text.ensures
    ∙ sym (append-nil (entry_text (told entry)))
    ∙ ap info_text (sym (map_step told c.args.info.now 0 entry c.at.ensures))

pub loop-place-preserved : goal.loop-place-preserved
loop-place-preserved c =
    let told = swapped_entry c.args.bases.now.up.text c.args.bases.now.front.text in
    let entry = c.at-in-loop-place.result.now in
    let before = map told (take c.loop-place.place c.args.info.now) in
    let within : c.loop-place.place < length c.args.info.now = slice_get_within c.args.info.now c.loop-place.place entry c.at-in-loop-place.ensures in
    let some : 0 < length before =
    omega (arith, within, c.loop-place.auto.place, length-map (take c.loop-place.place c.args.info.now) told, length-take-le c.loop-place.place c.args.info.now (omega (arith, within))) in
    c.in_ok-push_swapped-2.ensures
    ∙ ap (λ (t : List ℕ). t ++ entry_text (told entry)) (c.in_ok-push_slice.ensures.ok ∙ ap (λ (t : List ℕ). t ++ comma ∷ []) c.loop-place.invariant)
    ∙ append_assoc (info_text before) (comma ∷ []) (entry_text (told entry))
    ∙ sym (info_more before (told entry) some)
    ∙ ap info_text (sym (map_step told c.args.info.now c.loop-place.place entry c.at-in-loop-place.ensures))
