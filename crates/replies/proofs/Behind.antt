-- The calls reply and model behind the book test: the first refusal that holds, or what the call sends.
use Prim.Native.Nat.{ℕ}
use mathlib.Core.Path.{◌≡◌, refl}
use mathlib.Core.List.{List, []}
use mathlib.Core.Bool.{Bool, true, false}
use mathlib.Core.Option.{Option, none, some}
use mathlib.Core.Logic.{◌⊎◌, inl, inr}
use Rattle.basics.specs.Text.{Text}
use Rattle.basics.specs.Outcome.{refuse, ◌>>◌}
use Rattle.book.specs.Refusal.{number}
use Rattle.book.specs.declared.Refusal.TheVariants.{ReplyIsUnsat, NoSession, NoReplyOwed, NoModelOwed}
use Rattle.book.specs.Book.{Book}
use Rattle.book.specs.Decode.{program}
use Rattle.std.specs.Prelude.{Result, Ok, Err, is_ok}
use Rattle.std.specs.Borrow.{Bor}
use Rattle.solvers.specs.declared.Called.{Called}
use Rattle.solvers.specs.declared.Owed.{Owed}
use Rattle.solvers.specs.declared.Owed.TheVariants.{Nothing, Reply, Model}
use Rattle.solvers.specs.declared.Session.{Session}
use Rattle.solvers.specs.Session.{Proved, Unproved, closed, is_unsat, replied, give_reply, give_model}
use Rattle.solvers.specs.Calls.{owes, is_session, reason_of, fitting}
use Rattle.solvers.specs.Returned.{lent, heard, Given}
use Rattle.solvers.proofs.Returned.{given_refused, given_any}
use Rattle.replies.specs.Replies.{reason_text, reply_in, model_owed, model_in}

model_closes : (s : Session) (reply : Text) (model : Option Text) → give_model s reply model ≡ closed s (Unproved (reason_text reply model))
unfolding give_model reason_text
model_closes s reply none = refl
model_closes s reply (some model) = refl

other_than_reply : {o : Owed} → (o ≡ Nothing) ⊎ (o ≡ Model) → owes o Reply ≡ false
unfolding owes
other_than_reply (inl e) = rw e
other_than_reply (inr e) = rw e

other_than_model : {o : Owed} → (o ≡ Nothing) ⊎ (o ≡ Reply) → owes o Model ≡ false
unfolding owes
other_than_model (inl e) = rw e
other_than_model (inr e) = rw e

module _ (s : Session) (t e : List ℕ) where
  -- a reply that is owed
  module _ {check : Result (Bor Text) (Bor Text)} where
    pub check_failed : {r : Called} {t' e' : List ℕ} {error : Bor Text} → check ≡ Err error → Given (fitting (lent [] t e) (closed s (Unproved (reason_text error.now none)))) s r t t' e e'
        → Given (fitting (lent [] t e) (give_reply s (is_ok check) (heard check))) s r t t' e e'
    unfolding give_reply heard reason_text
    check_failed q g = rw q g

    module _ {reply : Bor Text} (q : check ≡ Ok reply) where
      pub goal_proved : {r : Called} {t' : List ℕ} → is_unsat reply.now ≡ true → Given (fitting (lent [] t []) (closed s Proved)) s r t t' [] []
          → Given (fitting (lent [] t e) (give_reply s (is_ok check) (heard check))) s r t t' e e
      unfolding give_reply heard replied closed reason_of
      goal_proved u g = rw (q, u) (given_any (closed s Proved) refl s t e g)

      pub model_asked : {r : Called} {t' : List ℕ} → is_unsat reply.now ≡ false → Given (fitting (lent [] t []) (replied false s)) s r t t' [] []
          → Given (fitting (lent [] t e) (give_reply s (is_ok check) (heard check))) s r t t' e e
      unfolding give_reply heard replied reason_of
      model_asked u g = rw (q, u) (given_any (replied false s) refl s t e g)

  -- a model that is owed
  module _ (reply : Text) (model : Option Text) where
    pub reply_unsat : is_unsat reply ≡ true → Given (model_owed s (lent [] t e) reply model) s (record { answer = Err ReplyIsUnsat; session = s }) t t e e
    unfolding model_owed refuse ◌>>◌ number
    reply_unsat u = given_refused (model_owed s (lent [] t e) reply model) ReplyIsUnsat s t e (rw u)

    pub model_given : {r : Called} {t' e' : List ℕ} → is_unsat reply ≡ false → Given (fitting (lent [] t e) (closed s (Unproved (reason_text reply model)))) s r t t' e e'
        → Given (model_owed s (lent [] t e) reply model) s r t t' e e'
    unfolding model_owed refuse ◌>>◌
    model_given u g = rw (u, model_closes s reply model) g

  -- the session, and what it owes
  module _ (b : Book) where
    module _ (ok : Bool) (reply : Text) where
      pub reply_outside : is_session (program b) s ≡ false → Given (reply_in b s (lent [] t e) ok reply) s (record { answer = Err NoSession; session = s }) t t e e
      unfolding reply_in refuse ◌>>◌ number
      reply_outside h = given_refused (reply_in b s (lent [] t e) ok reply) NoSession s t e (rw h)

      pub reply_not_owed : is_session (program b) s ≡ true → (s.owed ≡ Nothing) ⊎ (s.owed ≡ Model) → Given (reply_in b s (lent [] t e) ok reply) s (record { answer = Err NoReplyOwed; session = s }) t t e e
      unfolding reply_in refuse ◌>>◌ number
      reply_not_owed h o = given_refused (reply_in b s (lent [] t e) ok reply) NoReplyOwed s t e (rw (h, other_than_reply o))

      pub reply-owed : {r : Called} {t' e' : List ℕ} → is_session (program b) s ≡ true → owes s.owed Reply ≡ true → Given (fitting (lent [] t e) (give_reply s ok reply)) s r t t' e e'
          → Given (reply_in b s (lent [] t e) ok reply) s r t t' e e'
      unfolding reply_in refuse ◌>>◌
      reply-owed h o g = rw (h, o) g

    module _ (reply : Text) (model : Option Text) where
      pub model_outside : is_session (program b) s ≡ false → Given (model_in b s (lent [] t e) reply model) s (record { answer = Err NoSession; session = s }) t t e e
      unfolding model_in refuse ◌>>◌ number
      model_outside h = given_refused (model_in b s (lent [] t e) reply model) NoSession s t e (rw h)

      pub model_not_owed : is_session (program b) s ≡ true → (s.owed ≡ Nothing) ⊎ (s.owed ≡ Reply) → Given (model_in b s (lent [] t e) reply model) s (record { answer = Err NoModelOwed; session = s }) t t e e
      unfolding model_in refuse ◌>>◌ number
      model_not_owed h o = given_refused (model_in b s (lent [] t e) reply model) NoModelOwed s t e (rw (h, other_than_model o))

      pub model-owed : {r : Called} {t' e' : List ℕ} → is_session (program b) s ≡ true → owes s.owed Model ≡ true → Given (model_owed s (lent [] t e) reply model) s r t t' e e'
          → Given (model_in b s (lent [] t e) reply model) s r t t' e e'
      unfolding model_in refuse ◌>>◌
      model-owed h o g = rw (h, o) g
