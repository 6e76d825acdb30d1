-- What a function that declares has done: a step of the definitions, on levels and in text.
use Rattle.std.specs.Prelude.{ℕ, ◌<◌, ◌≡◌, List, ◌++◌, length}
use Rattle.basics.specs.Write.{WroteAt}
use Rattle.book.specs.Book.{Book}
use Rattle.book_test.specs.Promise.{Promise}
use Rattle.smt_engines.specs.Command.{Command, script}
use Rattle.rsolver.specs.Step.{Step}
use Rattle.rsolver.specs.LevelState.{LevelState, level_state, level_count}
use Rattle.levels.specs.declared.Progress.{Progress}

-- a book that keeps the promise, a level that isn't the first, and a place for each record
pub record Ready (b : Book) (n : ℕ) (ls : List ℕ) : Type 0 where
  pub promise : Promise b
  pub deep : 0 < n
  pub wide : length ls ≡ level_count

-- The step f was done at level n: from the levels ls and what was missing before it made ls' and what is missing now, whatever the stack
-- of that height holds and whatever was sent; and it sent the commands that were written at the place.
pub record Did (f : Step LevelState) (n : ℕ) (ls ls' : List ℕ) (so : Progress) (o o' : List ℕ) (r : Progress) : Type 0 where
  pub commands : List Command
  pub does : (stack : List ℕ) (sent : List Command) → length stack ≡ n → f (level_state stack ls so.missing sent) ≡ level_state stack ls' r.missing (sent ++ commands)
  pub text : WroteAt (script commands) so.at o o' r.at
