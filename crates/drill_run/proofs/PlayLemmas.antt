-- Events of a drill, one after another.
use Rattle.std.proofs.Common.{◌≡◌, ℕ, true, false, Some, None, List, [], ◌∷◌, ◌++◌, length, sym, ap, ◌∙◌, subst, append_assoc, refl, arith}
use Rattle.std.proofs.lemmas.List.{append-nil, map-append}
use Rattle.rtsp_head.specs.Items.{Shape, items_of}
use Rattle.rtsp_head.specs.Shapes.{shapes}
use Rattle.rtsp_head.specs.declared.item.Item.{Item}
use Rattle.drill_run.specs.declared.turn.Who.{Who}
use Rattle.rtsp_uri.specs.declared.base.Bases.{Bases}
use Rattle.gateway_claim.specs.declared.event.Event.{Event}
use Rattle.gateway_claim.specs.declared.event.Outcome.{Outcome}
use Rattle.gateway_claim.specs.Happenings.{Happening, HistoryEntry, entry_of, happening_of, happened}
use Rattle.drill_run.specs.declared.stage.DrillStage.{DrillStage}
use Rattle.drill_run.specs.CountSteps.{requests_told, piece_items}
use Rattle.drill_run.specs.Stages.{IsStage, Picks}
use Rattle.drill_run.specs.Turns.{Drilled, after_draw, after_saying, after_entry, after_entries, turn_told}
use Rattle.drill_run.specs.Steps.{end_told, said_told}
use Rattle.drill_run.specs.Players.{player_at, player_said}
use Rattle.drill_run.specs.declared.script.PlayerWords.{PlayerWords}
use Rattle.drill_run.specs.declared.turn.Who.TheVariants.{Client, Server}
use Rattle.drill_server.specs.ServerSteps.{next_answer}
use Rattle.drill_run.specs.Plays.{Drills, Plays, Driven, Drives, DrivesFirst, TurnTaken, TurnMade, item_told, items_told}

happened-append : (one other : List HistoryEntry) → happened (one ++ other) ≡ happened other ++ happened one
happened-append [] other = sym (append-nil (happened other))
happened-append (e ∷ one) other =
    ap (λ (l : List Happening). l ++ (e.happening ∷ [])) (happened-append one other) ∙ append_assoc (happened other) (happened one) (e.happening ∷ [])

entries-append : (one other : List HistoryEntry) (drilled : Drilled) → after_entries (one ++ other) drilled ≡ after_entries one (after_entries other drilled)
entries-append [] other drilled = refl
entries-append (e ∷ one) other drilled = ap (λ (d : Drilled). after_entry d e) (entries-append one other drilled)

pub drives_none : (now : Drills) → Drives now now []
drives_none now = λ drilled h. record { more = []; told_all = refl; stands = h }

pub drives_then : (before mid now : Drills) (first second : List Happening) → Drives before mid first → Drives mid now second → Drives before now (first ++ second)
drives_then before mid now first second one two = λ drilled h.
    let a = one drilled h in
    let b = two (after_entries a.more drilled) a.stands in
    record {
      more = b.more ++ a.more;
      told_all = happened-append b.more a.more ∙ ap (λ (l : List Happening). l ++ happened b.more) a.told_all ∙ ap (λ (l : List Happening). first ++ l) b.told_all;
      stands = subst now (sym (entries-append b.more a.more drilled)) b.stands;
    }

-- one event that a core took, and whose outcome reached the stage
pub drives_one : {M : Type 0} (stands : M → List HistoryEntry → Type 0) (bases_of : M → Bases) (core core_now : M) (stage stage_now : DrillStage) (event : Event) (outcome : Outcome) (requests : ℕ) (items : List Shape)
    → ((T : List HistoryEntry) → stands core T → stands core_now (entry_of event outcome ∷ T)) → bases_of core_now ≡ bases_of core
    → requests ≡ requests_told (happening_of event) → items ≡ piece_items outcome.to_client
    → ((happening : Happening) (drilled : Drilled) → requests ≡ requests_told happening → items ≡ piece_items outcome.to_client →
    IsStage stage drilled → IsStage stage_now (after_entry drilled (record { happening = happening; outcome = outcome })))
    → (between : Bases) → Drives (Plays stands bases_of core stage between) (Plays stands bases_of core_now stage_now between) (happening_of event ∷ [])
drives_one stands bases_of core core_now stage stage_now event outcome requests items steps same asked handed takes between = λ drilled h. record {
  more = entry_of event outcome ∷ [];
  told_all = refl;
  stands = record {
    stood = steps drilled.history h.stood;
    based = same ∙ h.based;
    staged = takes (happening_of event) drilled asked handed h.staged;
  };
}

pub first_none : (now : Drills) (who : Who) (items left : List Shape) → left ≡ items → DrivesFirst now now who items left
first_none now who items left all = record { taken = []; whole = all; drives = drives_none now }

-- one item more
pub first_more : (before mid now : Drills) (who : Who) (items left rest : List Shape) (shape : Shape) (happening : Happening) → DrivesFirst before mid who items left
    → left ≡ shape ∷ rest → happening ≡ item_told who shape → Drives mid now (happening ∷ []) → DrivesFirst before now who items rest
first_more before mid now who items left rest shape happening first next is one = record {
  taken = first.taken ++ shape ∷ [];
  whole = append_assoc first.taken (shape ∷ []) rest ∙ ap (λ (l : List Shape). first.taken ++ l) (sym next) ∙ first.whole;
  drives =
      subst (λ (told : List Happening). Drives before now told)
      (ap (λ (h : Happening). items_told who first.taken ++ h ∷ []) is ∙ sym (map-append (item_told who) first.taken (shape ∷ [])))
      (drives_then before mid now (items_told who first.taken) (happening ∷ []) first.drives one);
}

-- no item is left
pub first_all : (before now : Drills) (who : Who) (items left : List Shape) → DrivesFirst before now who items left → left ≡ [] → Drives before now (items_told who items)
first_all before now who items left first none =
    subst (λ (l : List Shape). Drives before now (items_told who l)) (sym (append-nil first.taken) ∙ ap (λ (l : List Shape). first.taken ++ l) (sym none) ∙ first.whole) first.drives

pub no_shapes : (items : List Item) → length items ≡ 0 → shapes items ≡ []
no_shapes [] none = refl
no_shapes (item ∷ items) none = absurd (omega arith)

-- a player's turn: what it says, and then its end
pub player_turn : {M : Type 0} (stands : M → List HistoryEntry → Type 0) (bases_of : M → Bases) (core : M) (stage said_stage : DrillStage) (between : Bases) (mid now : Drills) (i : ℕ) (said : PlayerWords) (items : List Shape)
    → ((drilled : Drilled) → IsStage stage drilled → said ≡ player_said i (player_at i drilled.players))
    → ((drilled : Drilled) → IsStage stage drilled → IsStage said_stage (after_saying (Client i) drilled))
    → items ≡ items_of said.text
    → Drives (Plays stands bases_of core said_stage between) mid (items_told (Client i) items) → Drives mid now (end_told said.last i)
    → TurnTaken (Client i) (Plays stands bases_of core stage between) now
player_turn stands bases_of core stage said_stage between mid now i said items says after items_are one two = λ drilled h.
    let start : Plays stands bases_of core said_stage between (after_saying (Client i) drilled) = record { stood = h.stood; based = h.based; staged = after drilled h.staged } in
    subst (λ (told : List Happening). Driven now told (after_saying (Client i) drilled))
    (ap (λ (l : List Shape). items_told (Client i) l ++ end_told said.last i) items_are ∙ ap (said_told i) (says drilled h.staged))
    (drives_then (Plays stands bases_of core said_stage between) mid now (items_told (Client i) items) (end_told said.last i) one two (after_saying (Client i) drilled) start)

pub server_turn : {M : Type 0} (stands : M → List HistoryEntry → Type 0) (bases_of : M → Bases) (core : M) (stage said_stage : DrillStage) (between : Bases) (now : Drills) (text : List ℕ) (items : List Shape)
    → ((drilled : Drilled) → IsStage stage drilled → text ≡ (next_answer drilled.server).text)
    → ((drilled : Drilled) → IsStage stage drilled → IsStage said_stage (after_saying Server drilled))
    → items ≡ items_of text
    → Drives (Plays stands bases_of core said_stage between) now (items_told Server items)
    → TurnTaken Server (Plays stands bases_of core stage between) now
server_turn stands bases_of core stage said_stage between now text items says after items_are one = λ drilled h.
    let start : Plays stands bases_of core said_stage between (after_saying Server drilled) = record { stood = h.stood; based = h.based; staged = after drilled h.staged } in
    subst (λ (told : List Happening). Driven now told (after_saying Server drilled))
    (ap (items_told Server) (items_are ∙ ap items_of (says drilled h.staged)))
    (one (after_saying Server drilled) start)

told_after_draw : (who : Who) (drilled : Drilled) → turn_told who (after_draw drilled) ≡ turn_told who drilled
told_after_draw (Client i) drilled = refl
told_after_draw Server drilled = refl

-- a turn that was drawn, and then taken
pub turn_made : {M : Type 0} (stands : M → List HistoryEntry → Type 0) (bases_of : M → Bases) (core : M) (stage drawn_stage : DrillStage) (between : Bases) (now : Drills) (who : Who)
    → ((drilled : Drilled) → IsStage stage drilled → Picks (Some who) drawn_stage drilled)
    → TurnTaken who (Plays stands bases_of core drawn_stage between) now
    → TurnMade true (Plays stands bases_of core stage between) now
turn_made stands bases_of core stage drawn_stage between now who picks takes = λ drilled h.
    let picked = picks drilled h.staged in
    let driven = takes (after_draw drilled) (record { stood = h.stood; based = h.based; staged = picked.1 }) in
    record {
      next = after_entries driven.more (after_saying who (after_draw drilled));
      turn = record { who = who; drawn = picked.0; more = driven.more; told = driven.told_all ∙ told_after_draw who drilled; after = refl };
      stands = driven.stands;
    }

pub no_turn : {M : Type 0} (stands : M → List HistoryEntry → Type 0) (bases_of : M → Bases) (core : M) (stage same_stage : DrillStage) (between : Bases)
    → ((drilled : Drilled) → IsStage stage drilled → Picks None same_stage drilled)
    → TurnMade false (Plays stands bases_of core stage between) (Plays stands bases_of core same_stage between)
no_turn stands bases_of core stage same_stage between picks = λ drilled h.
    let picked = picks drilled h.staged in
    (picked.0, record { stood = h.stood; based = h.based; staged = picked.1 })
