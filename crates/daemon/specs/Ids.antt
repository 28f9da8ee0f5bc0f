-- Which connections the parts of a daemon name, and when two daemons keep the same store. This project's own.
use Rattle.std.specs.Prelude.{◌≡◌, ℕ, true, map, is_some}
use Rattle.std.specs.List.{AllByRecursion}
use Rattle.std.specs.Ordering.{nat_cmp}
use Rattle.std.specs.FinMap.{find}
use Rattle.store_parts.specs.Kept.{Kept}
use Rattle.watchers.specs.Watched.{watches_of}

-- open transactions, unsent bytes and rests are kept for the connections that are there, and for no other; and watches for
-- no other
pub record AreIds (kept : Kept) : Type 0 where
  pub opens : map (λ e. e.0) kept.opens ≡ map (λ e. e.0) kept.specs
  pub unsent : map (λ e. e.0) kept.unsent ≡ map (λ e. e.0) kept.specs
  pub rests : map (λ e. e.0) kept.rests ≡ map (λ e. e.0) kept.specs
  pub watched : AllByRecursion (λ e. is_some (find nat_cmp e.0 kept.specs) ≡ true) kept.watched

-- THE SAME STORE: all is equal, and the watches of each connection are; one without watches may be named or not
pub record IsSameStore (old new : Kept) : Type 0 where
  pub tree : new.tree ≡ old.tree
  pub gens : new.gens ≡ old.gens
  pub globals : new.globals ≡ old.globals
  pub specs : new.specs ≡ old.specs
  pub watches : (c : ℕ) → watches_of c new.watched ≡ watches_of c old.watched
  pub opens : new.opens ≡ old.opens
  pub unsent : new.unsent ≡ old.unsent
  pub rests : new.rests ≡ old.rests
