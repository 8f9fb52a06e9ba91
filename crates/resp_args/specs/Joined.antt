-- One argument that is made of parts, one after another.
use Rattle.std.specs.Prelude.{◌≡◌, ℕ, List, ◌++◌}
use Rattle.resp_args.specs.Args.{Args, extended}

-- the last argument has more bytes at its end, with which these begin
pub record ExtendedInPart (bytes : List ℕ) (old new : Args) : Type 0 where
  pub done : List ℕ
  pub left : List ℕ
  pub in_order : bytes ≡ done ++ left
  pub written : new ≡ extended old done
