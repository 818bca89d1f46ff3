-- A reply whose headers are those of some fields can be read back.
use Rattle.std.proofs.Common.{◌≡◌, ℕ, ◌-◌, ◌<◌, ◌≤◌, ◌^◌, Bool, true, not, ◌&&◌, ◌||◌, nat_le, List, [], ◌∷◌, length, Option, None, Some, IfSome, refl, sym, ◌∙◌, ap, subst, arith}
use Rattle.std.specs.Prelude.{codes, unwrap_or, is_some}
use Rattle.std.specs.List.{list_all}
use Rattle.std.proofs.lemmas.Bool.{and_parts}
use Rattle.gate_bytes.specs.Tokens.{is_token, equal_fold}
use Rattle.rtsp_small.specs.declared.cseq.TheConstants.{CSEQ_ONE_DIGITS}
use Rattle.rtsp_head.specs.HeadParts.{Status}
use Rattle.rtsp_head.specs.Messages.{is_added}
use Rattle.rtsp_head.specs.Optional.{Field, field_headers}
use Rattle.rtsp_head.specs.HeadText.{is_line_text, is_start, is_header}
use Rattle.rtsp_head.proofs.MessageLemmas.{message_sound}
use Rattle.rtsp_head.proofs.FieldLemmas.{EachField, HasValue, fields_sound, names_hold, fields_few}
use Rattle.rtsp_status.specs.Reasons.{reason_of, has_reason, is_reason_byte}
use Rattle.rtsp_status.proofs.ReasonLemmas.{reason_fits}
use Rattle.head_one.specs.declared.reply.Reply1.{Reply1}
use Rattle.head_one.specs.Refusals.{version_one}
use Rattle.rtsp_head.specs.declared.headers.TheConstants.{MOST_HEADERS}
use Rattle.head_one.specs.Replies.{reply_start, IsReply}

-- neither the number nor the body's length
abbrev pub is_own : List ℕ → Bool
is_own name = not (equal_fold name (codes "CSeq") || equal_fold name (codes "Content-Length"))

-- a reason stands in one line
reason_line : (text : List ℕ) → list_all is_reason_byte text ≡ true → is_line_text text ≡ true
reason_line [] h = refl
reason_line (b ∷ text) h =
    let parts = and_parts (is_reason_byte b) (list_all is_reason_byte text) h in
    let rest : is_line_text text ≡ true = reason_line text parts.1 in
    grind arith

start_with : (code : ℕ) (reason : Option (List ℕ)) → reason_of code ≡ reason → is_some reason ≡ true → is_start (Status version_one code (unwrap_or reason [])) ≡ true
start_with code None is h = cc
start_with code (Some text) is h =
    let fits = and_parts (nat_le 100 code && nat_le code 999) (nat_le (length text) 40 && list_all is_reason_byte text) (reason_fits code text is) in
    let line : is_line_text text ≡ true = reason_line text (and_parts (nat_le (length text) 40) (list_all is_reason_byte text) fits.1).1 in
    ap (λ t. t && is_line_text text) fits.0 ∙ line

-- A reply with such fields is one that is read back.
pub numbered_reply : (reply : Reply1) (fields : List Field) → reply.headers ≡ field_headers fields → IfSome reply.cseq (λ n. n < 10 ^ CSEQ_ONE_DIGITS) → has_reason reply.code ≡ true →
    length reply.body < 2 ^ 64 → length fields ≤ MOST_HEADERS - 2 → list_all (λ field. is_token field.name) fields ≡ true → list_all (λ field. is_own field.name) fields ≡ true → EachField HasValue fields → IsReply reply
numbered_reply reply fields spelled short known long few tokens own values =
    let sound : list_all is_header reply.headers ≡ true = ap (list_all is_header) spelled ∙ fields_sound fields tokens values in
    let count : length reply.headers ≤ MOST_HEADERS - 2 = omega (arith, ap length spelled, fields_few fields, few) in
    record {
      short = short;
      writable = message_sound (reply_start reply) reply.cseq reply.headers reply.body (start_with reply.code (reason_of reply.code) refl known) (high reply.cseq short) long count sound;
      own = ap (list_all (λ header. not (is_added header))) spelled ∙ names_hold (λ header. not (is_added header)) is_own (λ header other. other) fields own;
      held = long;
    }
  where
    high : (cseq : Option ℕ) → IfSome cseq (λ n. n < 10 ^ CSEQ_ONE_DIGITS) → IfSome cseq (λ n. n < 2 ^ 64)
    high None h = tt
    high (Some n) h = omega arith

-- the same for a reply that has a number
pub fields_reply : (reply : Reply1) (fields : List Field) (cseq : ℕ) → reply.headers ≡ field_headers fields → reply.cseq ≡ Some cseq → cseq < 10 ^ CSEQ_ONE_DIGITS → has_reason reply.code ≡ true →
    length reply.body < 2 ^ 64 → length fields ≤ MOST_HEADERS - 2 → list_all (λ field. is_token field.name) fields ≡ true → list_all (λ field. is_own field.name) fields ≡ true → EachField HasValue fields → IsReply reply
fields_reply reply fields cseq spelled numbered short known long few tokens own values =
    numbered_reply reply fields spelled (subst (λ (o : Option ℕ). IfSome o (λ n. n < 10 ^ CSEQ_ONE_DIGITS)) (sym numbered) short) known long few tokens own values
