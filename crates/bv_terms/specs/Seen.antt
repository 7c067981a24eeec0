-- Cited by the law on walks: terms that were seen with all that they are made of.
use Rattle.std.specs.Prelude.{◌≡◌, true, List}
use Rattle.bv_terms.specs.TermTrees.{Term, Args, constant, input, apply, not_, binary, slice, pick, no_args, arg}
use Rattle.bv_terms.specs.Walks.{is_among}

abbrev mutual
  pub Seen : List Term → Term → Type 0
  Seen seen (constant w n) = is_among seen (constant w n) ≡ true
  Seen seen (input i w) = is_among seen (input i w) ≡ true
  Seen seen (apply f args w) = ArgsSeen seen args × (is_among seen (apply f args w) ≡ true)
  Seen seen (not_ a) = Seen seen a × (is_among seen (not_ a) ≡ true)
  Seen seen (binary op a b) =
      Seen seen a × Seen seen b × (is_among seen (binary op a b) ≡ true)
  Seen seen (slice a high low) = Seen seen a × (is_among seen (slice a high low) ≡ true)
  Seen seen (pick c a b) =
      Seen seen c × Seen seen a × Seen seen b × (is_among seen (pick c a b) ≡ true)

  pub ArgsSeen : List Term → Args → Type 0
  ArgsSeen seen no_args = Unit {0}
  ArgsSeen seen (arg t ts) = Seen seen t × ArgsSeen seen ts
