-- Requests of players (RFC 2326, 6).
use Rattle.std.specs.Prelude.{ℕ, List, take, drop, Option, Some, None, Result, Ok, Err}
use Rattle.rtsp_head.specs.Heads.{head_of}
use Rattle.rtsp_head.specs.Items.{Shape}
use Rattle.rtsp_head.specs.declared.head.Head.{Head}
use Rattle.rtsp_head.specs.HeadParts.{Start, Request, Status}
use Rattle.rtsp_head.specs.declared.fault.HeadFault.{HeadFault}
use Rattle.rtsp_small.specs.declared.method.Method.{Method}
use Rattle.head_one.specs.declared.request.Request1.{Request1}
use Rattle.head_one.specs.declared.refusal.Refusal.{Refusal}
use Rattle.head_one.specs.declared.refusal.RequestFault.{RequestFault}
use Rattle.head_one.specs.declared.refusal.RequestFault.TheVariants.{Refused, Memory}
use Rattle.head_one.specs.Refusals.{RequestFields, request_parts, parts_checked, refusal, no_request}

-- A request that no rule refuses, or how the first rule that applies refuses it.
abbrev pub request_checked : Result (Method × ℕ) ℕ → RequestFields → Head → List ℕ → Result Request1 Refusal
request_checked (Ok read) parts head body = Ok (record { method = read.0; uri = parts.uri; cseq = read.1; head = head; body = body })
request_checked (Err code) parts head body = Err (refusal parts code)

-- a request that begins so, or its refusal
abbrev pub request_at_start : Start → Head → List ℕ → Result Request1 Refusal
request_at_start (Request method uri version) head body =
    let parts = request_parts method uri version head.headers in request_checked (parts_checked parts) parts head body
request_at_start (Status version code reason) head body = Err no_request

-- a request with this head, or its refusal
abbrev pub request_of_head : Result Head HeadFault → List ℕ → Result Request1 Refusal
request_of_head (Ok head) body = request_at_start head.start head body
request_of_head (Err fault) body = Err no_request

-- the request that an item is, or how it is refused
abbrev pub request_of_item : Shape → Result Request1 Refusal
request_of_item shape = request_of_head (head_of (take shape.head shape.bytes)) (drop shape.head shape.bytes)

-- how a request is refused; not at all where memory was wanting
abbrev pub request_refusal : RequestFault → Option Refusal
request_refusal (Refused refusal) = Some refusal
request_refusal Memory = None
