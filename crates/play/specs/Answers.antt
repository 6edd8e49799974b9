-- What a session answers to a request.
use Rattle.std.specs.Prelude.{◌≡◌, string_bytes}
use Rattle.std.specs.declared.cmp.Ordering.{Ordering}
use Rattle.p2p_directory.specs.Network.{IsServedAmong}
use Rattle.p2p_directory.specs.Received.{Wire}
use Rattle.lines.specs.declared.requests.Request.{Request}
use Rattle.lines.specs.declared.requests.Request.TheVariants as request
use Rattle.play.specs.declared.answer.Answer.{Answer}
use Rattle.play.specs.declared.answer.Answer.TheVariants as answer
use Rattle.play.specs.Session.{SessionView, IsPut}

module _ {C S : Type 0} (cmp : C → C → Ordering) (wire : Wire C S) where
  -- the answer is that of what was asked for, and the session is what that left: s before it, s2
  -- after it; a value that is read or written leaves it as it was, and so does want of memory
  abbrev pub IsAnswered : Request C S → Answer C S → SessionView C S → SessionView C S → Type 0
  IsAnswered (request.Node name given) answer.Ready s s2 =
      IsPut cmp (string_bytes name) given s s2
  IsAnswered (request.Command c) (answer.Reply r) s s2 =
      (s2.labels ≡ s.labels) × IsServedAmong cmp wire c r s.nodes s2.nodes
  IsAnswered (request.Node name given) answer.OutOfMemory s s2 = s2 ≡ s
  IsAnswered (request.Node name given) a s s2 = ⊥
  IsAnswered (request.Command c) a s s2 = ⊥
  IsAnswered x a s s2 = s2 ≡ s

  -- a line that could be read: some request was answered so
  pub record AnswersSome (a : Answer C S) (s s2 : SessionView C S) : Type 0 where
    pub asked : Request C S
    pub answered : IsAnswered asked a s s2
