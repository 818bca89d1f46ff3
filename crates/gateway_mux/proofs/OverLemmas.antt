-- What is known of connections that are over, and of those that are kept.
use Rattle.std.proofs.Common.{◌≡◌, ◌∙◌, ◌&&◌, not, Bool, true, false, cond, Option, Some, None, IsSome, is_some, refl, sym, ap, subst}
use Rattle.client_slot.specs.declared.purpose.Purpose.{Purpose}
use Rattle.client_slot.specs.Places.{filled_place}
use Rattle.client_slot.specs.Client.{Client}
use Rattle.connection_table.specs.Over.{is_over, unless_over}
use Rattle.gateway_mux.specs.Departure.{is_gone, IsKeptUnlessGone}

true_is_false : true ≡ false → ⊥
true_is_false e = cc

-- a connection that is over
pub over_dead : (client : Client) → is_over client ≡ true → client.alive ≡ false
over_dead client over = by client.alive refl
  where
    by : (t : Bool) → client.alive ≡ t → t ≡ false
    by false e = refl
    by true e = absurd (true_is_false (sym over ∙ ap (λ a. not a && (not (is_some client.pending) && not (is_some (filled_place client.sessions)))) e))

both_true : (a b : Bool) → (a && b) ≡ true → (a ≡ true) × (b ≡ true)
both_true true true e = (refl, refl)
both_true true false e = cc
both_true false b e = cc

none_by : {A : Type 0} (a : Option A) → not (is_some a) ≡ true → a ≡ None
none_by None e = refl
none_by (Some a) e = cc

pub over_idle : (client : Client) → is_over client ≡ true → client.pending ≡ None
over_idle client over = none_by client.pending (both_true (not (is_some client.pending)) (not (is_some (filled_place client.sessions))) (both_true (not client.alive) (not (is_some client.pending) && not (is_some (filled_place client.sessions))) over).1).0

pub over_unbound : (client : Client) → is_over client ≡ true → filled_place client.sessions ≡ None
over_unbound client over = none_by (filled_place client.sessions) (both_true (not (is_some client.pending)) (not (is_some (filled_place client.sessions))) (both_true (not client.alive) (not (is_some client.pending) && not (is_some (filled_place client.sessions))) over).1).1

-- one with a request open is not over
pub busy_stays : (client : Client) → IsSome client.pending → is_over client ≡ false
busy_stays client some = by (is_over client) refl
  where
    none_some : (pending : Option Purpose) → pending ≡ None → IsSome pending → ⊥
    none_some None e s = cc
    none_some (Some purpose) e s = cc

    by : (t : Bool) → is_over client ≡ t → t ≡ false
    by false e = refl
    by true e = absurd (none_some client.pending (over_idle client e) some)

-- What is kept of a connection
pub kept_same : (one : Option Client) → IsKeptUnlessGone one one
kept_same None = refl
kept_same (Some client) = refl

pub kept_along : {a b c d : Option Client} → a ≡ b → IsKeptUnlessGone b c → c ≡ d → IsKeptUnlessGone a d
kept_along {a} {b} {c} {d} one is other = subst (λ (client : Option Client). IsKeptUnlessGone client d) (sym one) (subst (λ (client : Option Client). IsKeptUnlessGone b client) other is)

pub kept_as : {a b : Option Client} → a ≡ b → IsKeptUnlessGone a b
kept_as {a} {b} same = kept_along same (kept_same b) refl

pub kept_none : (one : Option Client) → IsKeptUnlessGone one None → one ≡ None
kept_none None is = refl
kept_none (Some client) is = cc

some_is : (a b : Client) → Some a ≡ Some b → a ≡ b
some_is a b e = cc

pub kept_whole : (one : Option Client) (its : Client) → IsKeptUnlessGone one (Some its) → is_over its ≡ false → one ≡ Some its
kept_whole None its is stays = absurd (true_is_false (sym is ∙ stays))
kept_whole (Some client) its is stays = sym is

pub kept_alive : (one : Option Client) (its : Client) → IsKeptUnlessGone one (Some its) → (told : Option Client → Bool) → told None ≡ false → (of : Client → Bool) → ((client : Client) → told (Some client) ≡ of client)
    → ((client : Client) → client.alive ≡ false → of client ≡ false) → of its ≡ told one
kept_alive None its is told none of same dead = dead its (over_dead its is) ∙ sym none
kept_alive (Some client) its is told none of same dead = ap of (some_is its client is) ∙ sym (same client)

pub kept_told : {A : Type 0} (one its : Option Client) → IsKeptUnlessGone one its → (told : Option Client → A) → ((client : Client) → is_over client ≡ true → told (Some client) ≡ told None) → told one ≡ told its
kept_told None None is told over = refl
kept_told None (Some its) is told over = sym (over its is)
kept_told (Some client) its is told over = ap told (sym is)

-- Where one that is over is forgotten, nothing is kept of it.
pub kept_unless_over : (one its : Option Client) → IsKeptUnlessGone one its → IsKeptUnlessGone (unless_over one) its
kept_unless_over None its is = is
kept_unless_over (Some client) its is = by (is_over client) refl
  where
    by : (t : Bool) → is_over client ≡ t → IsKeptUnlessGone (cond t None (Some client)) its
    by true e = ap is_gone is ∙ e
    by false e = is
