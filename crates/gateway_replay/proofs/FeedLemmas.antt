-- A framer that is there was fed what its connection was fed, and one that is made was fed nothing.
use Rattle.std.proofs.Common.{◌≡◌, ℕ, List, [], Option, None, Some, sym, subst}
use Rattle.rtsp_head.specs.Items.{Shape}
use Rattle.rtsp_frame.specs.FramerState.{HeldBytes, Framed}
use Rattle.gateway_replay.specs.Framers.{FramerFed}

pub fed_framed : (f : Option HeldBytes) (held : HeldBytes) → f ≡ Some held → (stream : List ℕ) (given : List Shape) → FramerFed f stream given → Framed held stream given
fed_framed f held is stream given h = subst (λ (x : Option HeldBytes). FramerFed x stream given) is h

pub fresh_framed : (f : Option HeldBytes) (held : HeldBytes) → f ≡ None → Framed held [] [] → (stream : List ℕ) (given : List Shape) → FramerFed f stream given → Framed held stream given
fresh_framed f held none fresh stream given h =
    let nothing : FramerFed None stream given = subst (λ (x : Option HeldBytes). FramerFed x stream given) none h in
    subst (λ (l : List ℕ). Framed held l given) (sym nothing.0) (subst (λ (l : List Shape). Framed held [] l) (sym nothing.1) fresh)
