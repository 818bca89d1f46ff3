-- The table of a session's states, after that of a server in RFC 2326, A.2. It is this project's own profile of that
-- table: TEARDOWN alone ends a session, and only replies of success move it.
use Rattle.std.specs.Prelude.{ℕ, Bool, true, false, ◌&&◌, nat_le, List, [], ◌∷◌, Option, Some, None, is_some, unwrap_or, if◌then◌else◌}
use Rattle.std.specs.Str.{bytes_eq}
use Rattle.rtsp_small.specs.declared.method.Method.{Method}
use Rattle.rtsp_small.specs.declared.method.Method.TheVariants.{Options, Describe, Setup, Play, Pause, Teardown, GetParameter, SetParameter}
use Rattle.rtsp_small.specs.Methods.{method_name}
use Rattle.rtsp_status.specs.declared.code.TheConstants.{FIRST_SUCCESS, LAST_SUCCESS}
use Rattle.session_one.specs.declared.table.State.{State}
use Rattle.session_one.specs.declared.table.State.TheVariants.{Init, Ready, Playing}

-- A row of the table: in this state a player may ask for this method, and its success leads to the next state.
pub record Transition : Type 0 where
  pub state : State
  pub method : Method
  pub next : State

-- a row of the table
abbrev pub transition : State → Method → State → Transition
transition state method next = record { state = state; method = method; next = next }

-- the transitions that move a session, and those that leave it as it is
abbrev pub transitions : List Transition
transitions =
    transition Init Setup Ready
    ∷ transition Ready Setup Ready
    ∷ transition Ready Play Playing
    ∷ transition Playing Play Playing
    ∷ transition Playing Pause Ready
    ∷ transition Ready Teardown Init
    ∷ transition Playing Teardown Init
    ∷ transition Init Options Init ∷ transition Ready Options Ready ∷ transition Playing Options Playing
    ∷ transition Init Describe Init ∷ transition Ready Describe Ready ∷ transition Playing Describe Playing
    ∷ transition Init GetParameter Init ∷ transition Ready GetParameter Ready ∷ transition Playing GetParameter Playing
    ∷ transition Init SetParameter Init ∷ transition Ready SetParameter Ready ∷ transition Playing SetParameter Playing
    ∷ []

-- whether two states are the same
abbrev pub same_state : State → State → Bool
same_state Init Init = true
same_state Init Ready = false
same_state Init Playing = false
same_state Ready Init = false
same_state Ready Ready = true
same_state Ready Playing = false
same_state Playing Init = false
same_state Playing Ready = false
same_state Playing Playing = true

-- two methods are one where their names are
abbrev pub same_method : Method → Method → Bool
same_method one other = bytes_eq (method_name one) (method_name other)

-- the next state of the first row in a list for a state and a method
abbrev pub next_in : List Transition → State → Method → Option State
next_in [] state method = None
next_in (one ∷ more) state method = if same_state one.state state && same_method one.method method then Some one.next else next_in more state method

-- the state after a method; none where it is not allowed
abbrev pub next_of : State → Method → Option State
next_of state method = next_in transitions state method

-- whether the table has a row
abbrev pub is_allowed : State → Method → Bool
is_allowed state method = is_some (next_of state method)

-- whether a code is one of success (RFC 2326, 7.1.1; RFC 7826, 17)
abbrev pub is_success : ℕ → Bool
is_success code = nat_le FIRST_SUCCESS code && nat_le code LAST_SUCCESS

-- The state after a reply with this code. A success goes by the table, and every other code leaves the state.
abbrev pub state_after : State → Method → ℕ → State
state_after state method code = if is_success code then unwrap_or (next_of state method) state else state
