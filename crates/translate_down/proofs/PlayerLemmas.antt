-- What a player is told of a reply rests on seven of its fields, its code and its body.
use Rattle.std.proofs.Common.{◌≡◌, ℕ, true, false, cond, ◌&&◌, ◌==◌, List, [], ◌∷◌, ◌++◌, Option, Some, is_none, filter, option_map, option_and_then, refl, sym, ap, ◌∙◌}
use Rattle.std.specs.Prelude.{codes}
use Rattle.rtsp_head.specs.declared.header.Header.{Header}
use Rattle.rtsp_head.specs.Headers.{field_of}
use Rattle.rtsp_head.specs.Messages.{own_fields}
use Rattle.head_one.specs.Replies.{reply_text}
use Rattle.head_two.specs.declared.reply.Reply2.{Reply2}
use Rattle.session_one.specs.declared.parts.Asked.{Asked}
use Rattle.translate_down.specs.Settings.{Setting}
use Rattle.rtsp_status.specs.Codes.{code_one}
use Rattle.rtsp_uri.specs.Swaps.{swapped}
use Rattle.rtsp_uri.specs.Descriptions.{rewritten}
use Rattle.rtsp_head.specs.Optional.{header_with, said_where, named, field_headers}
use Rattle.translate_down.specs.Infos.{info_told}
use Rattle.translate_down.specs.Plays.{moves, plays, range_told, scale_told}
use Rattle.translate_down.specs.Contents.{asks_description, comes_with_description, comes_with_body, names_description}
use Rattle.session_one.specs.Table.{is_success}
use Rattle.translate_down.specs.Replies.{session_fields, public_value, Told, success_of, refusal_of, reply_text_of, told_whole, told_by, is_no_transport}
use Rattle.translate_down.proofs.FieldLemmas.{own_field, untransported_field}

-- the fields that are told
pub record SameFields (fields others : List Header) : Type 0 where
  pub range : field_of fields (codes "Range") ≡ field_of others (codes "Range")
  pub scale : field_of fields (codes "Scale") ≡ field_of others (codes "Scale")
  pub info : field_of fields (codes "RTP-Info") ≡ field_of others (codes "RTP-Info")
  pub base : field_of fields (codes "Content-Base") ≡ field_of others (codes "Content-Base")
  pub kind : field_of fields (codes "Content-Type") ≡ field_of others (codes "Content-Type")
  pub encoding : field_of fields (codes "Content-Encoding") ≡ field_of others (codes "Content-Encoding")
  pub unsupported : field_of fields (codes "Unsupported") ≡ field_of others (codes "Unsupported")

abbrev told_with : ℕ → List Header → List ℕ → Told
told_with code fields body = record { code = code; fields = fields; body = body }

-- the text by the values of these fields
abbrev text_with : Setting → Asked → ℕ → List ℕ → (range scale info base kind encoding unsupported : Option (List ℕ)) → List ℕ
text_with setting asked code body range scale info base kind encoding unsupported =
    reply_text (cond (is_success code)
    (record {
      code = 200;
      cseq = Some asked.cseq;
      headers = field_headers (session_fields setting asked
          ++ (named (codes "Range") (said_where (moves asked.method) (option_and_then range_told range))
          ∷ named (codes "Scale") (said_where (plays asked.method) (option_and_then scale_told scale))
          ∷ named (codes "RTP-Info") (said_where (plays asked.method) (option_and_then (info_told setting.up setting.front) info)) ∷ [])
          ++ named (codes "Public") (public_value asked.method) ∷ []
          ++ (named (codes "Content-Base") (said_where (comes_with_description asked.method body) (option_map (swapped setting.up setting.front) base))
          ∷ named (codes "Content-Type") (said_where (comes_with_body asked.method body) kind)
          ∷ named (codes "Content-Encoding") (said_where (comes_with_body asked.method body) encoding) ∷ []));
      body = cond (comes_with_body asked.method body) (cond (asks_description asked.method && (names_description kind && is_none encoding)) (rewritten setting.up setting.front body) body) [];
    })
    (record { code = code_one code; cseq = Some asked.cseq; headers = header_with (codes "Unsupported") (said_where (code == 551) unsupported); body = [] }))

pub same_text : (setting : Setting) (asked : Asked) (code : ℕ) (body : List ℕ) (fields others : List Header) → SameFields fields others →
    reply_text_of setting asked (told_with code fields body) ≡ reply_text_of setting asked (told_with code others body)
same_text setting asked code body fields others same =
    ap (λ (v : Option (List ℕ)). text_with setting asked code body v (field_of fields (codes "Scale")) (field_of fields (codes "RTP-Info")) (field_of fields (codes "Content-Base")) (field_of fields (codes "Content-Type")) (field_of fields (codes "Content-Encoding")) (field_of fields (codes "Unsupported"))) same.range
    ∙ ap (λ (v : Option (List ℕ)). text_with setting asked code body (field_of others (codes "Range")) v (field_of fields (codes "RTP-Info")) (field_of fields (codes "Content-Base")) (field_of fields (codes "Content-Type")) (field_of fields (codes "Content-Encoding")) (field_of fields (codes "Unsupported"))) same.scale
    ∙ ap (λ (v : Option (List ℕ)). text_with setting asked code body (field_of others (codes "Range")) (field_of others (codes "Scale")) v (field_of fields (codes "Content-Base")) (field_of fields (codes "Content-Type")) (field_of fields (codes "Content-Encoding")) (field_of fields (codes "Unsupported"))) same.info
    ∙ ap (λ (v : Option (List ℕ)). text_with setting asked code body (field_of others (codes "Range")) (field_of others (codes "Scale")) (field_of others (codes "RTP-Info")) v (field_of fields (codes "Content-Type")) (field_of fields (codes "Content-Encoding")) (field_of fields (codes "Unsupported"))) same.base
    ∙ ap (λ (v : Option (List ℕ)). text_with setting asked code body (field_of others (codes "Range")) (field_of others (codes "Scale")) (field_of others (codes "RTP-Info")) (field_of others (codes "Content-Base")) v (field_of fields (codes "Content-Encoding")) (field_of fields (codes "Unsupported"))) same.kind
    ∙ ap (λ (v : Option (List ℕ)). text_with setting asked code body (field_of others (codes "Range")) (field_of others (codes "Scale")) (field_of others (codes "RTP-Info")) (field_of others (codes "Content-Base")) (field_of others (codes "Content-Type")) v (field_of fields (codes "Unsupported"))) same.encoding
    ∙ ap (λ (v : Option (List ℕ)). text_with setting asked code body (field_of others (codes "Range")) (field_of others (codes "Scale")) (field_of others (codes "RTP-Info")) (field_of others (codes "Content-Base")) (field_of others (codes "Content-Type")) (field_of others (codes "Content-Encoding")) v) same.unsupported

own_same : (headers : List Header) → SameFields (own_fields headers) headers
own_same headers = record {
  range = own_field headers (codes "Range") refl;
  scale = own_field headers (codes "Scale") refl;
  info = own_field headers (codes "RTP-Info") refl;
  base = own_field headers (codes "Content-Base") refl;
  kind = own_field headers (codes "Content-Type") refl;
  encoding = own_field headers (codes "Content-Encoding") refl;
  unsupported = own_field headers (codes "Unsupported") refl;
}

untransported_same : (headers : List Header) → SameFields (filter is_no_transport headers) headers
untransported_same headers = record {
  range = untransported_field headers (codes "Range") refl;
  scale = untransported_field headers (codes "Scale") refl;
  info = untransported_field headers (codes "RTP-Info") refl;
  base = untransported_field headers (codes "Content-Base") refl;
  kind = untransported_field headers (codes "Content-Type") refl;
  encoding = untransported_field headers (codes "Content-Encoding") refl;
  unsupported = untransported_field headers (codes "Unsupported") refl;
}

-- The number, the body's length and Transport make no difference.
pub own_text : (setting : Setting) (asked : Asked) (code : ℕ) (body : List ℕ) (headers : List Header) →
    reply_text_of setting asked (told_with code (own_fields headers) body) ≡ reply_text_of setting asked (told_with code headers body)
own_text setting asked code body headers = same_text setting asked code body (own_fields headers) headers (own_same headers)

pub untransported_text : (setting : Setting) (asked : Asked) (code : ℕ) (body : List ℕ) (headers : List Header) →
    reply_text_of setting asked (told_with code (filter is_no_transport headers) body) ≡ reply_text_of setting asked (told_with code headers body)
untransported_text setting asked code body headers = same_text setting asked code body (filter is_no_transport headers) headers (untransported_same headers)

pub told_text : (setting : Setting) (asked : Asked) (reply : Reply2) → reply_text_of setting asked (told_by reply) ≡ reply_text_of setting asked (told_whole reply)
told_text setting asked reply =
    untransported_text setting asked reply.code reply.body (own_fields reply.head.headers) ∙ own_text setting asked reply.code reply.body reply.head.headers

-- the text of a success, and that of a refusal
pub success_text : (setting : Setting) (asked : Asked) (reply : Reply2) → is_success reply.code ≡ true →
    reply_text (success_of setting asked (told_whole reply)) ≡ reply_text_of setting asked (told_by reply)
success_text setting asked reply success =
    sym (told_text setting asked reply ∙ ap (λ t. reply_text (cond t (success_of setting asked (told_whole reply)) (refusal_of asked (told_whole reply)))) success)

pub refusal_text : (setting : Setting) (asked : Asked) (reply : Reply2) → is_success reply.code ≡ false →
    reply_text (refusal_of asked (told_whole reply)) ≡ reply_text_of setting asked (told_by reply)
refusal_text setting asked reply success =
    sym (told_text setting asked reply ∙ ap (λ t. reply_text (cond t (success_of setting asked (told_whole reply)) (refusal_of asked (told_whole reply)))) success)
