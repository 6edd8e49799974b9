-- A call that was made straight at the node is one that was asked for.
use Rattle.std.proofs.Common.{◌≡◌, ℕ, List, false, true, [], ◌∷◌, length, arith, Ok, Some, inr, refl, sym, ◌∙◌, subst}
use Rattle.p2p_tracker.specs.Calls.{Call}
use Rattle.p2p_directory.specs.Run.{was_made}
use Rattle.p2p_directory.specs.Nodes.{AtEach, IsSame, IsSteppedAt, NodeView}
use Rattle.p2p_directory.specs.declared.run.commands.Reply.{Reply}
use Rattle.p2p_session.specs.Answers.{Tells}
use Rattle.p2p_session.specs.Sessions.{TellsReply, answer_to, Serves}
use Rattle.p2p_session.specs.Answers.Answer.{Is}
use Rattle.p2p_session.specs.Schemes.{Scheme}

module _ {C S : Type 0} (k : Scheme C S) where
  -- a call that may change the node
  pub made : (call : Call C S) (r : Reply C S) (v v2 : NodeView C S) (n : ℕ) →
      AtEach k.key.cmp v (λ m calls. IsSteppedAt m calls call r v2) → (was_made r ≡ false → IsSame v v2) →
      TellsReply k r [] [] n → Serves k (Ok call) [] [] (Some v) (Some v2) n
  made call r v v2 n stepped unchanged told = (r, record { stepped = stepped; unchanged = unchanged; told = told })

  -- .. into a room of no bytes
  pub called : (call : Call C S) (r : Reply C S) (v v2 : NodeView C S) (out : List ℕ) (n : ℕ) →
      AtEach k.key.cmp v (λ m calls. IsSteppedAt m calls call r v2) → (was_made r ≡ false → IsSame v v2) →
      length out ≡ 0 → TellsReply k r [] out n → Serves k (Ok call) [] [] (Some v) (Some v2) n
  called call r v v2 [] n stepped unchanged none told = made call r v v2 n stepped unchanged told
  called call r v v2 (b ∷ out) n stepped unchanged none told = absurd (omega (arith, none))

  -- a question that is answered by a number
  pub asked : (call : Call C S) (r : Reply C S) (v : NodeView C S) (n : ℕ) →
      AtEach k.key.cmp v (λ m calls. IsSteppedAt m calls call r v) → Is n ≡ answer_to k r →
      Serves k (Ok call) [] [] (Some v) (Some v) n
  asked call r v n stepped is =
      made call r v v n stepped (λ _. refl) (inr (subst (λ a. Tells a [] [] n) is (refl, refl)))

  -- .. or by bytes
  pub told : (call : Call C S) (r : Reply C S) (v : NodeView C S) (out out2 : List ℕ) (n : ℕ) →
      AtEach k.key.cmp v (λ m calls. IsSteppedAt m calls call r v) → Tells (answer_to k r) out out2 n →
      Serves k (Ok call) out out2 (Some v) (Some v) n
  told call r v out out2 n stepped tells =
      (r, record { stepped = stepped; unchanged = λ _. refl; told = inr tells })

  -- a call that changes the node, never wants memory, and is answered by a number
  pub changed : (call : Call C S) (r : Reply C S) (v v2 : NodeView C S) (n : ℕ) →
      AtEach k.key.cmp v (λ m calls. IsSteppedAt m calls call r v2) → was_made r ≡ true → Is n ≡ answer_to k r →
      Serves k (Ok call) [] [] (Some v) (Some v2) n
  changed call r v v2 n stepped always is =
      made call r v v2 n stepped (λ no. absurd (let e = sym no ∙ always in cc))
      (inr (subst (λ a. Tells a [] [] n) is (refl, refl)))
