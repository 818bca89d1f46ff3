use Rattle.std.proofs.Common.{◌≡◌, ◌≤◌, ℕ, List, Some, length, take, drop, sym, ap, ◌∙◌, subst, arith, length-drop}
use Rattle.std.proofs.lemmas.List.{length-take-le, take-take}
use Rattle.rtsp_head.specs.Items.{first_extent}
use Rattle.rtsp_head.specs.MarkedHeads.{IsMarkedHead}
use Rattle.rtsp_head.proofs.SpanLemmas.{head_within}
use Rattle.rtsp_frame.proofs.ExtentLemmas.{first_is}
use Rattle.rtsp_frame.proofs.AloneLemmas.{first_alone}
use Rattle.rtsp_frame.proofs.cut_items.copy_item.Goals as goal

pub after-requires : goal.after-requires
after-requires c =
    let fits = (first_is c.args.stream.now c.args.extent c.requires.first).fits in omega (arith, fits)

pub before-bytes-requires : goal.before-bytes-requires
before-bytes-requires c =
    let fits = (first_is c.args.stream.now c.args.extent c.requires.first).fits in
    omega (arith, fits, ap length c.after.ensures, length-drop c.args.extent.skipped c.args.stream.now)

pub invariant_of-result : goal.invariant_of-result
invariant_of-result c =
    let extent = c.args.extent in
    let text = c.in_ok-copy.field-0 in
    let left = drop extent.skipped c.args.stream.now in
    let copied : text ≡ take extent.span.len left = c.in_ok-copy.ensures.copy ∙ c.before-bytes.ensures ∙ ap (take extent.span.len) c.after.ensures in
    let whole : first_extent text ≡ Some (record { skipped = 0; span = record { kind = extent.span.kind; len = length text; head = extent.span.head } }) =
    subst (λ (text : List ℕ). first_extent text ≡ Some (record { skipped = 0; span = record { kind = extent.span.kind; len = length text; head = extent.span.head } }))
    (sym copied) (first_alone c.args.stream.now extent c.requires.first) in
    let fits = (first_is c.args.stream.now extent c.requires.first).fits in
    let len : length (take extent.span.len left) ≡ extent.span.len = length-take-le extent.span.len left (omega (arith, fits, length-drop extent.skipped c.args.stream.now)) in
    let short : extent.span.head ≤ extent.span.len = omega (arith, head_within text _ whole, ap length copied, len) in
    let head : take extent.span.head text ≡ take extent.span.head left = ap (take extent.span.head) copied ∙ take-take extent.span.head extent.span.len left short in
    record {
      marked = subst (λ (bytes : List ℕ). IsMarkedHead bytes c.args.marks.now) (sym head) c.requires.marks;
      whole = whole;
    }
