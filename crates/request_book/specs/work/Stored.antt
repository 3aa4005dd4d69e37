use Rattle.std.specs.Prelude.{ℕ, ◌+◌, ◌≤◌}
use Rattle.request_book.specs.Book.{BookView, IsBook}
use Rattle.request_book.specs.work.register.Register.{IsIndexed, HasRoom}
use Rattle.request_book.specs.declared.register.Register.{Register}

-- what a book's parts keep, where `len` entries lie in room for `capacity`
pub record IsStored (b : BookView) (len capacity : ℕ) (register : Register) : Type 0 where
  pub book : IsBook b
  pub indexed : IsIndexed register
  pub room : HasRoom b.spare register
  pub entries : len + b.spare ≤ capacity
