-- A core that refuses every request, whoever asks: a second core beside the multiplexer (this project's own).
use Rattle.std.specs.Prelude.{◌≡◌, ℕ, Bool, is_some, codes, List, [], ◌∷◌, ◌++◌, Option, Some, None, if◌then◌else◌}
use Rattle.rtsp_head.specs.declared.item.ItemKind.{ItemKind}
use Rattle.rtsp_head.specs.declared.item.ItemKind.TheVariants.{Request, Response, Frame, Bad}
use Rattle.rtsp_uri.specs.declared.base.Bases.{Bases}
use Rattle.client_machine.specs.declared.why.CloseWhy.{CloseWhy}
use Rattle.client_machine.specs.declared.why.CloseWhy.TheVariants.{Ended, BadItem, Slow}
use Rattle.gateway_claim.specs.declared.event.Closed.TheVariants.{Nobody, One}
use Rattle.gateway_claim.specs.declared.event.Event.{Event}
use Rattle.gateway_claim.specs.declared.event.Event.TheVariants as event
use Rattle.gateway_claim.specs.declared.event.Outcome.{Outcome}
use Rattle.gateway_claim.specs.declared.event.UpCause.{UpCause}
use Rattle.gateway_claim.specs.Happenings.{Happening, enters, takes, ends, lags, hears, up_ends, cause_of, HistoryEntry, fault_in, is_alive, nothing_up, silent}
use Rattle.gateway_claim.specs.Cores.{IsCoreHistory, closing_all}
use Rattle.gate_bytes.specs.Ascii.{cr, lf}

-- what a request is answered
abbrev pub refused_text : List ℕ
refused_text = codes "RTSP/1.0 501 Not Implemented" ++ cr ∷ lf ∷ cr ∷ lf ∷ []

-- bytes for one client, and nothing else
abbrev pub handing : ℕ → List ℕ → Outcome
handing conn text = record { to_client = Some (record { conn = conn; bytes = text }); to_up = nothing_up; closed = Nobody; fault = None }

-- a close of one client, and nothing else
abbrev pub closing_one : ℕ → CloseWhy → Outcome
closing_one conn why = record { to_client = None; to_up = nothing_up; closed = One conn why; fault = None }

-- what an item of a connection that is alive gives
abbrev pub refused_item : ItemKind → ℕ → Outcome
refused_item Request conn = handing conn refused_text
refused_item Response conn = silent
refused_item Frame conn = silent
refused_item (Bad kind) conn = closing_one conn BadItem

-- what is done with an item of one that is alive, or not
abbrev pub item_refused : Bool → ItemKind → ℕ → Outcome
item_refused alive kind conn = if alive then refused_item kind conn else silent

-- the close of a connection, where it is alive
abbrev pub closed_if : Bool → ℕ → CloseWhy → Outcome
closed_if alive conn why = if alive then closing_one conn why else silent

-- what an event gives, by who is alive, and after the end of the connection to the server
abbrev pub refusing : (ℕ → Bool) → Happening → Outcome
refusing alive (enters conn) = silent
refusing alive (takes conn shape) = item_refused (alive conn) shape.kind conn
refusing alive (ends conn) = closed_if (alive conn) conn Ended
refusing alive (lags conn) = closed_if (alive conn) conn Slow
refusing alive (hears shape) = silent
refusing alive (up_ends why) = closing_all (cause_of why)

-- what is done with an event; nothing after the end of the connection to the server
abbrev pub refusal_at : (ℕ → Bool) → Option UpCause → Happening → Outcome
refusal_at alive ended happening = if is_some ended then silent else refusing alive happening

-- an entry that follows
abbrev pub FollowsRefusing : Bases → List HistoryEntry → HistoryEntry → Type 0
FollowsRefusing bases earlier entry = entry.outcome ≡ refusal_at (λ i. is_alive i earlier) (fault_in earlier) entry.happening

-- These are alive and this is the end of the connection to the server, after a history.
pub record StandsRefusing (bases : Bases) (alive : ℕ → Bool) (ended : Option UpCause) (history : List HistoryEntry) : Type 0 where
  pub is_history : IsCoreHistory FollowsRefusing bases history
  pub over : ended ≡ fault_in history
  pub living : (i : ℕ) → alive i ≡ is_alive i history

-- the text that an event needs
abbrev pub text_for : Bool → ItemKind → Option (List ℕ)
text_for alive Request = if alive then Some refused_text else None
text_for alive Response = None
text_for alive Frame = None
text_for alive (Bad kind) = None

-- the text that a plan has
abbrev pub text_planned : (ℕ → Bool) → Event → Option (List ℕ)
text_planned alive (event.Client conn item) = text_for (alive conn) item.kind
text_planned alive (event.Up item) = None
text_planned alive (event.End conn) = None
text_planned alive (event.Slow conn) = None
text_planned alive (event.UpEnd why) = None
