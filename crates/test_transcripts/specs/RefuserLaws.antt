-- The laws of a core, of one that refuses every request.
use Rattle.std.specs.Prelude.{◌≡◌, ℕ, Bool, true, false, List, Option, Some, None, refl}
use Rattle.std.proofs.Common.{cond, sym, ◌∙◌, ap, subst}
use Rattle.rtsp_head.specs.Items.{Shape}
use Rattle.rtsp_head.specs.declared.item.ItemKind.{ItemKind}
use Rattle.rtsp_head.specs.declared.item.ItemKind.TheVariants.{Request, Response, Frame, Bad}
use Rattle.rtsp_uri.specs.declared.base.Bases.{Bases}
use Rattle.client_machine.specs.declared.why.CloseWhy.TheVariants.{Ended, Slow}
use Rattle.gateway_claim.specs.declared.event.Closed.TheVariants.{Nobody, One}
use Rattle.gateway_claim.specs.declared.event.Outcome.{Outcome}
use Rattle.gateway_claim.specs.declared.event.UpCause.{UpCause}
use Rattle.gateway_claim.specs.Happenings.{Happening, enters, takes, ends, lags, hears, up_ends, HistoryEntry, fault_in, is_alive, silent}
use Rattle.gateway_claim.specs.Cores.{IsCoreHistory, IsOrderlyBy, IsOrderlyAfter, IsOrderly}
use Rattle.test_transcripts.specs.Refuser.{closing_one, refused_item, refusing, refusal_at, FollowsRefusing}

-- at most one entry with a given happening follows
pub one_refusal : (bases : Bases) (T : List HistoryEntry) (one other : HistoryEntry) → FollowsRefusing bases T one → FollowsRefusing bases T other → one.happening ≡ other.happening → one ≡ other
one_refusal bases T one other f g same =
    ap (λ (h : Happening). let e : HistoryEntry = record { happening = h; outcome = one.outcome } in e) same
    ∙ ap (λ (o : Outcome). let e : HistoryEntry = record { happening = other.happening; outcome = o } in e)
    (f ∙ ap (refusal_at (λ i. is_alive i T) (fault_in T)) same ∙ sym g)

-- an entry hands out and closes what an entry may
item_orderly : (T : List HistoryEntry) (conn : ℕ) (shape : Shape) (kind : ItemKind) → is_alive conn T ≡ true
    → IsOrderlyBy (refused_item kind conn).fault T (record { happening = takes conn shape; outcome = refused_item kind conn })
item_orderly T conn shape Request alive = (alive, tt)
item_orderly T conn shape Response alive = (tt, tt)
item_orderly T conn shape Frame alive = (tt, tt)
item_orderly T conn shape (Bad kind) alive = (tt, (alive, (refl, refl)))

take_orderly : (T : List HistoryEntry) (conn : ℕ) (shape : Shape) (alive : Bool) → is_alive conn T ≡ alive
    → IsOrderlyBy (cond alive (refused_item shape.kind conn) silent).fault T (record { happening = takes conn shape; outcome = cond alive (refused_item shape.kind conn) silent })
take_orderly T conn shape true is = item_orderly T conn shape shape.kind is
take_orderly T conn shape false is = (tt, tt)

end_orderly : (T : List HistoryEntry) (conn : ℕ) (alive : Bool) → is_alive conn T ≡ alive
    → IsOrderlyBy (cond alive (closing_one conn Ended) silent).fault T (record { happening = ends conn; outcome = cond alive (closing_one conn Ended) silent })
end_orderly T conn true is = (refl, ap (λ b. cond b (One conn Ended) Nobody) (sym is))
end_orderly T conn false is = (refl, ap (λ b. cond b (One conn Ended) Nobody) (sym is))

slow_orderly : (T : List HistoryEntry) (conn : ℕ) (alive : Bool) → is_alive conn T ≡ alive
    → IsOrderlyBy (cond alive (closing_one conn Slow) silent).fault T (record { happening = lags conn; outcome = cond alive (closing_one conn Slow) silent })
slow_orderly T conn true is = (refl, ap (λ b. cond b (One conn Slow) Nobody) (sym is))
slow_orderly T conn false is = (refl, ap (λ b. cond b (One conn Slow) Nobody) (sym is))

refusing_orderly : (T : List HistoryEntry) (h : Happening) → IsOrderlyBy (refusing (λ i. is_alive i T) h).fault T (record { happening = h; outcome = refusing (λ i. is_alive i T) h })
refusing_orderly T (enters conn) = refl
refusing_orderly T (takes conn shape) = take_orderly T conn shape (is_alive conn T) refl
refusing_orderly T (ends conn) = end_orderly T conn (is_alive conn T) refl
refusing_orderly T (lags conn) = slow_orderly T conn (is_alive conn T) refl
refusing_orderly T (hears shape) = (tt, tt)
refusing_orderly T (up_ends why) = (refl, refl)

refusal_orderly : (T : List HistoryEntry) (h : Happening) (ended : Option UpCause) → IsOrderlyAfter ended T (record { happening = h; outcome = refusal_at (λ i. is_alive i T) ended h })
refusal_orderly T h None = refusing_orderly T h
refusal_orderly T h (Some cause) = refl

-- what is handed out keeps the order of all cores
pub refusals_orderly : (bases : Bases) (T : List HistoryEntry) (entry : HistoryEntry) → IsCoreHistory FollowsRefusing bases T → FollowsRefusing bases T entry → IsOrderly T entry
refusals_orderly bases T entry history follows =
    subst (λ (o : Outcome). IsOrderly T (record { happening = entry.happening; outcome = o })) (sym follows) (refusal_orderly T entry.happening (fault_in T))
