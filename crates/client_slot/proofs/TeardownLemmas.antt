-- The text of a TEARDOWN, piece by piece.
use Rattle.std.proofs.Common.{◌≡◌, ℕ, List, [], ◌∷◌, ◌++◌, append_assoc, append-nil}
use Rattle.std.specs.Prelude.{codes, decimal}
use Rattle.gate_bytes.specs.Ascii.{space, colon, cr, lf}
use Rattle.head_two.specs.Requests.{request_text}
use Rattle.client_slot.specs.Teardown.{teardown_request}

-- the same pieces, however they are put together
together : (method gap uri version end number mark digits session id : List ℕ)
    → ((((((method ++ gap) ++ uri) ++ (gap ++ (version ++ (end ++ (number ++ mark))))) ++ digits) ++ (end ++ (session ++ mark))) ++ id) ++ (end ++ end)
    ≡ (((method ++ (gap ++ (uri ++ (gap ++ version)))) ++ end) ++ (((number ++ (mark ++ digits)) ++ end) ++ (((session ++ (mark ++ id)) ++ end) ++ [])) ++ end) ++ []
together method gap uri version end number mark digits session id = simp (append_assoc, append-nil)

pub teardown_pieces : (uri id digits t₀ t₁ t₂ t₃ t₄ t₅ t₆ t₇ : List ℕ) (number : ℕ) → t₀ ≡ [] → t₁ ≡ t₀ ++ codes "TEARDOWN " → t₂ ≡ t₁ ++ uri
    → t₃ ≡ t₂ ++ (codes " RTSP/2.0" ++ cr ∷ lf ∷ codes "CSeq: ") → t₄ ≡ t₃ ++ digits → t₅ ≡ t₄ ++ (cr ∷ lf ∷ codes "Session: ") → t₆ ≡ t₅ ++ id
    → t₇ ≡ t₆ ++ cr ∷ lf ∷ cr ∷ lf ∷ [] → digits ≡ decimal number → t₇ ≡ request_text number (teardown_request uri id)
teardown_pieces uri id digits t₀ t₁ t₂ t₃ t₄ t₅ t₆ t₇ number e₀ e₁ e₂ e₃ e₄ e₅ e₆ e₇ d =
    rw (e₇, e₆, e₅, e₄, e₃, e₂, e₁, e₀, d)
    (together (codes "TEARDOWN") (space ∷ []) uri (codes "RTSP/2.0") (cr ∷ lf ∷ []) (codes "CSeq") (colon ∷ space ∷ []) (decimal number) (codes "Session") id)
