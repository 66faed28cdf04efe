-- The codes of requests and answers, the numbers of classes, and the kinds of requests.
use Rattle.std.specs.Prelude.{◌≡◌, ℕ, cond, Some, None, Option, Result, IfErr, ◌==◌}
use Rattle.rules.specs.declared.records.Class.{Class}
use Rattle.rules.specs.declared.records.Class.TheVariants.{First, Second}
use Rattle.rules.specs.declared.records.Function.{Function}
use Rattle.rules.specs.declared.records.Function.TheVariants as fn
use Rattle.rules.specs.declared.records.Reply.{Reply}
use Rattle.rules.specs.declared.records.Reply.TheVariants as reply
use Rattle.rules.specs.declared.records.Request.{Request}
use Rattle.rules.specs.declared.records.Request.TheVariants as request
use Rattle.rules.specs.declared.records.Service.{Service}
use Rattle.rules.specs.declared.records.Service.TheVariants as service
use Rattle.rules.specs.declared.records.UnknownCode.{UnknownCode}
use Rattle.std.specs.Result.{result_ok}

-- the result is what a number stands for in a list, or has the number where it stands for nothing there
abbrev pub Decodes : {A : Type 0} → (ℕ → Option A) → ℕ → Result A UnknownCode → Type 0
Decodes list k r = (result_ok r ≡ list k) × IfErr r (λ e. e.0 ≡ k)

-- the code of what is asked
abbrev pub function_code : Function → ℕ
function_code fn.Reset = 0
function_code fn.Send = 3
function_code fn.Status = 9
function_code fn.PollFirst = 10
function_code fn.PollSecond = 11

-- what a request asks
abbrev pub function_asked : Request → Function
function_asked request.Reset = fn.Reset
function_asked request.Status = fn.Status
function_asked (request.Send m) = fn.Send
function_asked (request.Poll First) = fn.PollFirst
function_asked (request.Poll Second) = fn.PollSecond

-- what a code asks, if anything
abbrev pub function_of : ℕ → Option Function
function_of k =
    cond (k == 0) (Some fn.Reset) (
    cond (k == 3) (Some fn.Send) (
    cond (k == 9) (Some fn.Status) (
    cond (k == 10) (Some fn.PollFirst) (
    cond (k == 11) (Some fn.PollSecond) None))))

-- the code of an answer
abbrev pub reply_code : Reply → ℕ
reply_code reply.Ack = 0
reply_code reply.Busy = 1
reply_code reply.Data = 8
reply_code reply.NoData = 9
reply_code reply.Status = 11
reply_code reply.NotFunctioning = 14
reply_code reply.NotImplemented = 15

-- what a code answers, if anything
abbrev pub reply_of : ℕ → Option Reply
reply_of k =
    cond (k == 0) (Some reply.Ack) (
    cond (k == 1) (Some reply.Busy) (
    cond (k == 8) (Some reply.Data) (
    cond (k == 9) (Some reply.NoData) (
    cond (k == 11) (Some reply.Status) (
    cond (k == 14) (Some reply.NotFunctioning) (
    cond (k == 15) (Some reply.NotImplemented) None))))))

-- class 1 and class 2
abbrev pub class_of : ℕ → Option Class
class_of n = cond (n == 1) (Some First) (cond (n == 2) (Some Second) None)

-- the kind of a request
abbrev pub service_of : Request → Service
service_of request.Reset = service.Reset
service_of request.Status = service.Status
service_of (request.Send m) = service.Send
service_of (request.Poll c) = service.Poll
