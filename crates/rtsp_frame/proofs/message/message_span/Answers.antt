use Rattle.std.proofs.Common.{◌≡◌, ◌≤◌, Some, Result, ℕ, List, length, take, sym, ap, ◌∙◌, subst, arith}
use Rattle.std.proofs.lemmas.List.{length-take, take_all, take-take}
use Rattle.rtsp_head.specs.Items.{begins_blank, head_len}
use Rattle.rtsp_head.specs.Heads.{facts_of}
use Rattle.rtsp_head.specs.declared.item.Span.{Span}
use Rattle.rtsp_head.specs.declared.item.TheConstants.{MOST_HEAD}
use Rattle.rtsp_frame.specs.declared.item_front.ItemFront.{ItemFront}
use Rattle.rtsp_frame.specs.Fronts.{IsLineTo}
use Rattle.rtsp_frame.specs.StreamFronts.{IsSpanFound, when_come, told_span, span_cost}
use Rattle.rtsp_frame.proofs.ExtentLemmas.{head_within}
use Rattle.rtsp_frame.proofs.ReachLemmas.{reached_front}
use Rattle.rtsp_frame.proofs.FrontLemmas.{begins_full, IsTold, found_head, found_line, found_longest, is_told, when_cost}
use Rattle.rtsp_frame.proofs.WholeHeadLemmas.{still_full}
use Rattle.rtsp_head.specs.MarkedHeads.{IsMarkedHead}
use Rattle.rtsp_frame.proofs.MarkLemmas.{come_marked, told_head}
use Rattle.rtsp_frame.proofs.message.message_span.Goals as goal

pub find_head-requires-clause-begins : goal.find_head-requires-clause-begins
find_head-requires-clause-begins g c =
    ap begins_blank c.front.ensures ∙ still_full c.args.bytes.now MOST_HEAD (begins_full c.args.bytes.now c.requires.begins)

pub find_head-requires-clause-reached : goal.find_head-requires-clause-reached
find_head-requires-clause-reached g c =
    let short : c.args.searched ≤ MOST_HEAD = omega (arith, c.requires.short) in
    subst (λ (l : List ℕ). IsLineTo l c.args.line c.args.searched) (sym c.front.ensures)
    (reached_front c.args.bytes.now MOST_HEAD c.args.line c.args.searched short c.requires.reached)

pub judged_span-requires : goal.judged_span-requires
judged_span-requires g c = (head_within c.args.bytes.now c.in-Ok.head.len (ap head_len (sym c.front.ensures) ∙ c.in-Ok.ensures.ok)).1

pub returns-in-Ok-clause-found : goal.returns-in-Ok-clause-found
returns-in-Ok-clause-found g c =
    let len = c.in-Ok.head.len in
    let at : head_len (take MOST_HEAD c.args.bytes.now) ≡ Some len = ap head_len (sym c.front.ensures) ∙ c.in-Ok.ensures.ok in
    let same : take len c.front.result.now ≡ take len c.args.bytes.now = ap (take len) c.front.ensures ∙ take-take len MOST_HEAD c.args.bytes.now (head_within c.args.bytes.now len at).1 in
    let told = c.judged_span.ensures ∙ ap (told_span len) (c.in-Ok.ensures.facts ∙ ap facts_of same) in
    subst (λ (r : Result Span ItemFront). IsSpanFound c.args.bytes.now r) (sym (c.when_come.ensures ∙ ap (when_come (length c.args.bytes.now)) told))
    (found_head c.args.bytes.now len c.requires.begins at)

pub returns-in-Ok-clause-steps : goal.returns-in-Ok-clause-steps
returns-in-Ok-clause-steps g c =
    let len = c.in-Ok.head.len in
    let fits = (head_within c.args.bytes.now len (ap head_len (sym c.front.ensures) ∙ c.in-Ok.ensures.ok)).0 in
    let told : IsTold len c.judged_span.result = subst (λ (s : Span). IsTold len s) (sym c.judged_span.ensures) (is_told len c.in-Ok.head.facts) in
    let cost = when_cost (length c.args.bytes.now) len c.judged_span.result told.head fits in
    let paid = ap (span_cost (length c.args.bytes.now)) c.when_come.ensures in
    omega (arith, c.in-Ok.ensures.cost, cost, paid)

pub returns-in-Ok-clause-marks : goal.returns-in-Ok-clause-marks
returns-in-Ok-clause-marks g c =
    let bytes = c.args.bytes.now in
    let len = c.in-Ok.head.len in
    let marks = c.find_head.new.marks in
    let at : head_len (take MOST_HEAD bytes) ≡ Some len = ap head_len (sym c.front.ensures) ∙ c.in-Ok.ensures.ok in
    let same : take len c.front.result.now ≡ take len bytes = ap (take len) c.front.ensures ∙ take-take len MOST_HEAD bytes (head_within bytes len at).1 in
    come_marked (length bytes) len c.judged_span.result bytes marks c.when_come.result c.when_come.ensures (ap (λ (span : Span). span.head) c.judged_span.ensures ∙ told_head len c.in-Ok.head.facts)
    (subst (λ (head : List ℕ). IsMarkedHead head marks) same c.in-Ok.ensures.marks)

pub returns-in-Err-clause-found : goal.returns-in-Err-clause-found
returns-in-Err-clause-found g c =
    let whole = c.front.ensures ∙ take_all MOST_HEAD c.args.bytes.now (omega (arith, c.if-bytes-lt-MOST_HEAD.true)) in
    found_line c.args.bytes.now c.in-Err.line c.requires.begins c.if-bytes-lt-MOST_HEAD.true
    (subst (λ (l : List ℕ). IsLineTo l c.in-Err.line (length l)) whole c.in-Err.ensures.err)

pub returns-in-Err-clause-steps : goal.returns-in-Err-clause-steps
returns-in-Err-clause-steps g c =
    let whole = c.front.ensures ∙ take_all MOST_HEAD c.args.bytes.now (omega (arith, c.if-bytes-lt-MOST_HEAD.true)) in
    omega (arith, c.in-Err.ensures.err_cost, ap length whole)

pub returns-in-Err-2-clause-found : goal.returns-in-Err-2-clause-found
returns-in-Err-2-clause-found g c =
    found_longest c.args.bytes.now c.in-Err-2.field-0 c.requires.begins (omega (arith, c.if-bytes-lt-MOST_HEAD.false))
    (subst (λ (l : List ℕ). IsLineTo l c.in-Err-2.field-0 (length l)) c.front.ensures c.in-Err-2.ensures.err)
    ∙ ap (λ (s : Span). Some s) (sym c.bad_span.ensures)

pub returns-in-Err-2-clause-steps : goal.returns-in-Err-2-clause-steps
returns-in-Err-2-clause-steps g c =
    let long = ap (λ (s : Span). s.len) c.bad_span.ensures in
    omega (arith, c.in-Err-2.ensures.err_cost, ap length c.front.ensures, length-take MOST_HEAD c.args.bytes.now, long)
