-- What was put or taken before is the first of what is.
use Rattle.std.proofs.Common.{◌≡◌, ◌∙◌, ℕ, Bool, true, false, List, [], ◌∷◌, ◌++◌, refl, sym, ap}
use Rattle.std.proofs.lemmas.List.{append-nil, append_assoc}
use Rattle.client_ports.specs.declared.parcel.Parcel.{Parcel}
use Rattle.client_ports.specs.declared.parcel.Parcel.TheVariants as parcels
use Rattle.client_ports.specs.declared.putter.Putter.{Putter}
use Rattle.client_ports.specs.Ends.{put_of}
use Rattle.client_ports.specs.Rule.{BeginsIn}
use Rattle.gateway_claim.specs.declared.event.ToUp.{ToUp}
use Rattle.hub_queues.specs.Parcels.{answer_parcels, message_parcels, up_parcels}
use Rattle.hub_queues.specs.Places.{put_as, PutsInto, PutsAll}

pub begins_as : (before now : List Parcel) → now ≡ before → BeginsIn before now
begins_as before now same = ([], append-nil before ∙ sym same)

pub begins_same : (parcels : List Parcel) → BeginsIn parcels parcels
begins_same parcels = begins_as parcels parcels refl

pub begins_twice : (before between now : List Parcel) → BeginsIn before between → BeginsIn between now → BeginsIn before now
begins_twice before between now first next = (first.0 ++ next.0, sym (append_assoc before first.0 next.0) ∙ ap (λ (l : List Parcel). l ++ next.0) first.1 ∙ next.1)

-- one parcel more, or none
pub begins_more : (before between now : List Parcel) (parcel : Parcel) → BeginsIn before between → now ≡ between ++ parcel ∷ [] → BeginsIn before now
begins_more before between now parcel first more = begins_twice before between now first (parcel ∷ [], sym more)

begins_put : (full : Bool) (before now : List Parcel) (parcel : Parcel) → now ≡ put_as full before parcel → BeginsIn before now
begins_put true before now parcel is = begins_as before now is
begins_put false before now parcel is = (parcel ∷ [], sym is)

pub into_front : (bytes : List ℕ) (full : Bool) (before now : Putter) → PutsInto bytes full before now → BeginsIn (put_of before) (put_of now)
into_front bytes full before now puts = begins_put full (put_of before) (put_of now) (parcels.Bytes bytes) puts.put

-- The answer is put, and then the message.
append_empty : (one other : List Parcel) → one ++ other ≡ [] → one ≡ []
append_empty [] other is = refl
append_empty (p ∷ one) other is = cc

pub hands_front : (up : ToUp) (before after : Putter) (full : Bool) → full ≡ true → PutsAll (answer_parcels up.answer) full before after → PutsAll (up_parcels up) true before after
hands_front up before after full is puts = record {
  end = puts.end;
  front = puts.front;
  none = λ empty. sym is ∙ puts.none (append_empty (answer_parcels up.answer) (message_parcels up.message) empty);
  landed = λ no. absurd (cc);
  refused = λ _.
      let r = puts.refused is in (
        record {
          first = r.0.first;
          later = r.0.later ++ message_parcels up.message;
          whole = sym (append_assoc (put_of after) (r.0.first ∷ r.0.later) (message_parcels up.message))
              ∙ ap (λ (l : List Parcel). l ++ message_parcels up.message) r.0.whole
              ∙ append_assoc (put_of before) (answer_parcels up.answer) (message_parcels up.message);
        },
        r.1,
      );
}
