-- Which replies are read back from what a player gets. This project's own.
use Rattle.std.specs.Prelude.{◌≡◌, ◌<◌, ◌^◌, true, length, IfSome}
use Rattle.std.specs.List.{list_all}
use Rattle.rtsp_head.specs.HeadText.{is_header}
use Rattle.rtsp_small.specs.declared.cseq.TheConstants.{CSEQ_ONE_DIGITS}
use Rattle.rtsp_uri.specs.BaseTexts.{is_base_text}
use Rattle.session_one.specs.declared.parts.Asked.{Asked}
use Rattle.translate_down.specs.Settings.{Setting, CanBeTold}
use Rattle.translate_down.specs.Contents.{body_told}
use Rattle.translate_down.specs.Replies.{Told}

-- The front is a base, the player's channels are of one byte and its number has as many digits as one may have; the server's fields
-- are as those of every head that was read; and the body that is handed on fits into memory.
pub record CanBeRead (place : Setting) (asked : Asked) (told : Told) : Type 0 where
  pub setting : CanBeTold place
  pub front : is_base_text place.front ≡ true
  pub client : IfSome place.client (λ pair. (pair.rtp < 256) × (pair.rtcp < 256))
  pub cseq : asked.cseq < 10 ^ CSEQ_ONE_DIGITS
  pub fields : list_all is_header told.fields ≡ true
  pub body : length (body_told place asked.method told.fields told.body) < 2 ^ 64
