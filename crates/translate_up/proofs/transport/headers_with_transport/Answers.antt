use Rattle.std.proofs.Common.{◌≡◌, ◌≤◌, ℕ, length, sym, ◌∙◌, ap, subst}
use Rattle.translate_up.specs.Upward.{transport_place}
use Rattle.translate_up.proofs.TransportLemmas.{place_within, put_at}
use Rattle.translate_up.proofs.transport.headers_with_transport.Goals as goal

pub insert-requires : goal.insert-requires
insert-requires c =
    let place : c.transport_place-place.result ≡ transport_place c.args.headers = c.transport_place-place.ensures ∙ ap transport_place c.as_slice.ensures in
    subst (λ (n : ℕ). n ≤ length c.args.headers) (sym place) (place_within c.args.headers)

pub returns : goal.returns
returns c =
    put_at c.args.pair.now c.args.headers c.insert.new.self c.transport_place-place.result c.owned-value.result c.in_ok-insert.ensures.ok
    (c.transport_place-place.ensures ∙ ap transport_place c.as_slice.ensures)
    (c.owned-value.ensures ∙ c.in_ok-write_two.ensures.text)
