-- A reply is the same by any timeout, but for that to a SETUP.
use Rattle.std.proofs.Common.{◌≡◌, ℕ, true, false, List, Option, refl, ap}
use Rattle.rtsp_small.specs.declared.method.Method.{Method}
use Rattle.rtsp_small.specs.declared.method.Method.TheVariants as methods
use Rattle.rtsp_transport.specs.declared.channels.Pair.{Pair}
use Rattle.session_one.specs.declared.parts.Asked.{Asked}
use Rattle.translate_down.specs.Sessions.{sets_up, told_timeout}
use Rattle.translate_down.specs.Settings.{Setting}
use Rattle.translate_down.specs.Replies.{Told, reply_text_of}

told_alike : (method : Method) (one other : Option ℕ) → (sets_up method ≡ true → one ≡ other) → told_timeout method one ≡ told_timeout method other
told_alike methods.Setup one other same = same refl
told_alike methods.Options one other same = refl
told_alike methods.Describe one other same = refl
told_alike methods.Play one other same = refl
told_alike methods.Pause one other same = refl
told_alike methods.Teardown one other same = refl
told_alike methods.GetParameter one other same = refl
told_alike methods.SetParameter one other same = refl

pub text_alike : (setting : Setting) (one other : Option ℕ) (asked : Asked) (told : Told) → (sets_up asked.method ≡ true → one ≡ other) →
    reply_text_of (record setting { timeout = one }) asked told ≡ reply_text_of (record setting { timeout = other }) asked told
text_alike setting one other asked told same = rw (told_alike asked.method one other same) refl
