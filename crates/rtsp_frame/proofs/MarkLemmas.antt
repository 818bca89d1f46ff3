-- Where the headers of a head stand is known of the item that it begins.
use Rattle.std.proofs.Common.{◌≡◌, ℕ, ◌+◌, List, nat_lt, Bool, true, false, cond, take, Result, Ok, Err, refl, sym, subst}
use Rattle.std.specs.Prelude.{IfOk}
use Rattle.rtsp_head.specs.declared.facts.Facts.{Facts}
use Rattle.rtsp_head.specs.declared.facts.Length.{Length}
use Rattle.rtsp_head.specs.declared.facts.Length.TheVariants as lengths
use Rattle.rtsp_head.specs.declared.fault.HeadFault.{HeadFault}
use Rattle.rtsp_head.specs.declared.item.BadKind.TheVariants as bad
use Rattle.rtsp_head.specs.declared.item.ItemKind.{ItemKind}
use Rattle.rtsp_head.specs.declared.item.Span.{Span}
use Rattle.rtsp_head.specs.declared.item.TheConstants.{MOST_BODY}
use Rattle.rtsp_head.specs.declared.marks.HeadMarks.{HeadMarks}
use Rattle.rtsp_head.specs.Items.{bad_span, message_kind}
use Rattle.rtsp_head.specs.MarkedHeads.{IsMarkedHead}
use Rattle.rtsp_frame.specs.declared.item_front.ItemFront.{ItemFront}
use Rattle.rtsp_frame.specs.declared.item_front.ItemFront.TheVariants.{End}
use Rattle.rtsp_frame.specs.StreamFronts.{when_come, told_body, told_span}

-- Of an item of which not all has come nothing is said.
pub come_marked : (come len : ℕ) (span : Span) (bytes : List ℕ) (marks : HeadMarks) (found : Result Span ItemFront) → found ≡ when_come come span → span.head ≡ len → IsMarkedHead (take len bytes) marks
    → IfOk found (λ span. IsMarkedHead (take span.head bytes) marks)
come_marked come len span bytes marks found is head marked = subst (λ (found : Result Span ItemFront). IfOk found (λ span. IsMarkedHead (take span.head bytes) marks)) (sym is) (by (nat_lt come span.len))
  where
    by : (short : Bool) → IfOk (cond short (Err (End span)) (Ok span)) (λ span. IsMarkedHead (take span.head bytes) marks)
    by true = tt
    by false = subst (λ (n : ℕ). IsMarkedHead (take n bytes) marks) (sym head) marked

-- whatever a head says, it is that head's span
body_head : (kind : ItemKind) (n : ℕ) (length : Length) → (told_body kind n length).head ≡ n
body_head kind n lengths.Absent = refl
body_head kind n (lengths.Bytes body) = by (nat_lt MOST_BODY body)
  where
    by : (long : Bool) → (cond long (bad_span bad.Body n) (record { kind = kind; len = n + body; head = n })).head ≡ n
    by true = refl
    by false = refl
body_head kind n lengths.Bad = refl

pub told_head : (n : ℕ) (facts : Result Facts HeadFault) → (told_span n facts).head ≡ n
told_head n (Ok facts) = body_head (message_kind facts.request) n facts.length
told_head n (Err fault) = refl
