-- Items that are a SETUP as it can be read.
use Rattle.std.specs.Prelude.{Bool, false, Result, Ok, Err}
use Rattle.rtsp_head.specs.Items.{Shape}
use Rattle.head_one.specs.declared.request.Request1.{Request1}
use Rattle.head_one.specs.declared.refusal.Refusal.{Refusal}
use Rattle.head_one.specs.Requests.{request_of_item}
use Rattle.translate_up.specs.Fields.{is_setup}

-- whether a request that was read is SETUP
abbrev pub is_setup_read : Result Request1 Refusal → Bool
is_setup_read (Ok request) = is_setup request.method
is_setup_read (Err refusal) = false

-- whether an item is a SETUP that can be read
abbrev pub is_setup_item : Shape → Bool
is_setup_item shape = is_setup_read (request_of_item shape)
