-- What a machine writes down of its steps.
use Rattle.std.specs.Prelude.{◌≡◌, ℕ, ◌++◌, ◌<◌, Option, vec_len, vec_capacity}
use Rattle.argo_model.specs.declared.reply.Reply.{Reply}
use Rattle.argo_model.specs.Runs.Final.{grown, done_lines}
use Rattle.argo_machine.specs.declared.books.Books.{Books}
use Rattle.argo_machine.specs.Replies.{reply_steps}

-- there is room for what one step adds
pub record HasRoom (b : Books) : Type 0 where
  pub runs : vec_len b.runs < vec_capacity b.runs
  pub done : vec_len b.done < vec_capacity b.done
  pub steps : vec_len b.reply_steps < vec_capacity b.reply_steps

-- the same is written down
pub record SameBooks (old new : Books) : Type 0 where
  pub runs : new.runs.items ≡ old.runs.items
  pub done : new.done.items ≡ old.done.items
  pub steps : new.reply_steps.items ≡ old.reply_steps.items

-- one step more of section v, its n-th
pub record Notes (old : Books) (v n line : ℕ) (reply : Option Reply) (new : Books) : Type 0 where
  pub runs : new.runs.items ≡ grown old.runs.items v
  pub done : new.done.items ≡ old.done.items ++ done_lines v line reply
  pub steps : new.reply_steps.items ≡ old.reply_steps.items ++ reply_steps n reply
