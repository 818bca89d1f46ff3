-- The answer to OPTIONS, written as it stands.
use Rattle.std.proofs.Common.{◌≡◌, ℕ, List, [], ◌∷◌, ◌++◌, sym, ◌∙◌, ap, arith}
use Rattle.std.specs.Prelude.{codes, decimal}
use Rattle.std.proofs.lemmas.Fmt.{decimal-digits_of}
use Rattle.std.proofs.lemmas.List.{append_assoc, append-nil}
use Rattle.rtsp_small.specs.Methods.{methods_text}
use Rattle.translate_up.specs.Answers.{options_text}

-- the end of a line
abbrev line_end : List ℕ
line_end = 13 ∷ 10 ∷ []

-- how the status line, the fields and the empty line are put together
text_joined : (code reason fields : List ℕ) → ((((code ++ reason) ++ line_end) ++ fields) ++ line_end) ++ [] ≡ code ++ (reason ++ (line_end ++ (fields ++ line_end)))
text_joined code reason fields =
    append-nil ((((code ++ reason) ++ line_end) ++ fields) ++ line_end)
    ∙ append_assoc ((code ++ reason) ++ line_end) fields line_end
    ∙ append_assoc (code ++ reason) line_end (fields ++ line_end)
    ∙ append_assoc code reason (line_end ++ (fields ++ line_end))

fields_joined : (number methods : List ℕ) → ((number ++ line_end) ++ methods) ++ line_end ≡ number ++ (line_end ++ (methods ++ line_end))
fields_joined number methods = append_assoc (number ++ line_end) methods line_end ∙ append_assoc number line_end (methods ++ line_end)

-- the pieces in the order in which they are pushed
pieces_joined : (front code middle number rest : List ℕ) → (((front ++ code) ++ middle) ++ number) ++ rest ≡ front ++ (code ++ (middle ++ (number ++ rest)))
pieces_joined front code middle number rest =
    append_assoc ((front ++ code) ++ middle) number rest ∙ append_assoc (front ++ code) middle (number ++ rest) ∙ append_assoc front code (middle ++ (number ++ rest))

abbrev public_line : List ℕ
public_line = codes "Public: " ++ methods_text ++ line_end

options_joined : (cseq : ℕ) → options_text cseq ≡ codes "RTSP/1.0 " ++ (decimal 200 ++ (codes " OK" ++ (line_end ++ (codes "CSeq: " ++ (decimal cseq ++ (line_end ++ (public_line ++ line_end)))))))
options_joined cseq =
    ap (λ text. codes "RTSP/1.0 " ++ text) (text_joined (decimal 200) (codes " OK") (codes "CSeq: " ++ ((decimal cseq ++ line_end) ++ public_line)))
    ∙ ap (λ fields. codes "RTSP/1.0 " ++ (decimal 200 ++ (codes " OK" ++ (line_end ++ (codes "CSeq: " ++ fields))))) (fields_joined (decimal cseq) public_line)

options_spelled : (cseq : ℕ) → (((codes "RTSP/1.0 " ++ decimal 200) ++ (codes " OK" ++ (line_end ++ codes "CSeq: "))) ++ decimal cseq) ++ (line_end ++ (public_line ++ line_end)) ≡ options_text cseq
options_spelled cseq =
    pieces_joined (codes "RTSP/1.0 ") (decimal 200) (codes " OK" ++ (line_end ++ codes "CSeq: ")) (decimal cseq) (line_end ++ (public_line ++ line_end)) ∙ sym (options_joined cseq)

-- the name of the field, the methods and the ends of the lines as they are pushed
rest_joined : (front name methods : List ℕ) → ((front ++ (line_end ++ name)) ++ methods) ++ (line_end ++ line_end) ≡ front ++ (line_end ++ (((name ++ methods) ++ line_end) ++ line_end))
rest_joined front name methods =
    append_assoc (front ++ (line_end ++ name)) methods (line_end ++ line_end)
    ∙ append_assoc front (line_end ++ name) (methods ++ (line_end ++ line_end))
    ∙ ap (λ rest. front ++ (line_end ++ rest)) (sym (append_assoc (name ++ methods) line_end line_end ∙ append_assoc name methods (line_end ++ line_end)))

rest_pushed : (d e f g : List ℕ) → e ≡ d ++ (line_end ++ codes "Public: ") → f ≡ e ++ methods_text → g ≡ f ++ (line_end ++ line_end) → g ≡ d ++ (line_end ++ (public_line ++ line_end))
rest_pushed d e f g fifth sixth seventh =
    seventh
    ∙ ap (λ (text : List ℕ). text ++ (line_end ++ line_end)) (sixth ∙ ap (λ (text : List ℕ). text ++ methods_text) fifth)
    ∙ rest_joined d (codes "Public: ") methods_text

-- the code as it is written
code_written : decimal 200 ≡ codes "200"
code_written = decimal-digits_of 200 (omega arith) (omega arith)

front_joined : codes "RTSP/1.0 200 OK" ++ (line_end ++ codes "CSeq: ") ≡ (codes "RTSP/1.0 " ++ decimal 200) ++ (codes " OK" ++ (line_end ++ codes "CSeq: "))
front_joined = ap (λ (code : List ℕ). (codes "RTSP/1.0 " ++ code) ++ (codes " OK" ++ (line_end ++ codes "CSeq: "))) (sym code_written)

-- what was pushed piece by piece
pub options_pushed : (cseq : ℕ) (c d e f g : List ℕ) → c ≡ codes "RTSP/1.0 200 OK" ++ (line_end ++ codes "CSeq: ") → d ≡ c ++ decimal cseq →
    e ≡ d ++ (line_end ++ codes "Public: ") → f ≡ e ++ methods_text → g ≡ f ++ (line_end ++ line_end) → g ≡ options_text cseq
options_pushed cseq c d e f g first second third fourth fifth =
    rest_pushed d e f g third fourth fifth
    ∙ ap (λ (text : List ℕ). text ++ (line_end ++ (public_line ++ line_end))) (second ∙ ap (λ (text : List ℕ). text ++ decimal cseq) (first ∙ front_joined))
    ∙ options_spelled cseq
