-- Once all was propagated nothing is forced and nothing is a conflict.
use Rattle.std.proofs.Common.{◌≡◌, ◌≢◌, ℕ, ◌<◌, ℤ, true, false, List, length, get_or, refl, sym, ap, ◌∙◌, subst, arith, inl, inr}
use Rattle.std.specs.List.{All}
use Rattle.std.proofs.lemmas.Bool.{cases_Bool, both_ways, false_from_ne_true}
use Rattle.std.proofs.lemmas.Option.{slice_get-get_or}
use Rattle.cnf_core.specs.Deriving.{forces, is_conflict, is_false}
use Rattle.cnf_core.specs.Literals.{Names, has_literal, opposite}
use Rattle.cnf_core.specs.Trails.{IsApart, HasStatus, literal_at}
use Rattle.cnf_core.specs.declared.clause_status.ClauseStatus.TheVariants.{Open}
use Rattle.cnf_core.proofs.LiteralFacts.{has-at, has-place}
use Rattle.cnf_core.proofs.ClauseStatuses.{each-has}
use Rattle.cdcl.specs.Searching.{IsClosed}
use Rattle.cdcl.specs.Watching.{AreWatched, IsWatched, IsWatching}
use Rattle.cdcl.specs.declared.watches.Pair.{Pair}
use Rattle.cdcl.specs.declared.watches.Watches.{Watches}
use Rattle.cdcl.proofs.Membership.{forced-parts, no-opposite}
use Rattle.cdcl.proofs.Watched.{some-at}

module _ (ts : List ℤ) (apart : IsApart ts) (vars : ℕ) (named : All (Names vars) ts) (c : List ℤ) where
  -- two literals that are not false
  open-two : (a b : ℤ) → a ≢ b → has_literal c a ≡ true → has_literal c b ≡ true → is_false ts a ≡ false → is_false ts b ≡ false → HasStatus ts c Open
  open-two a b differ in_a in_b open_a open_b = (
    false_from_ne_true (is_conflict ts c) (λ all. both_ways (is_false ts a) open_a (each-has (is_false ts) c a all in_a)),
    λ l. false_from_ne_true (forces ts c l) (λ e.
        let f = forced-parts ts c l e in
        elim (f.others a in_a) [
          | inl is_a ↦ elim (f.others b in_b) [
            | inl is_b ↦ differ (sym is_a ∙ is_b)
            | inr off ↦ both_ways (is_false ts b) open_b off
          ]
          | inr off ↦ both_ways (is_false ts a) open_a off
        ]),
  )

  -- a literal that is true
  open-true : (q : ℕ) → q < length ts → has_literal c (literal_at ts q) ≡ true → HasStatus ts c Open
  open-true q lt inside =
      let not_false : is_false ts (literal_at ts q) ≡ false = no-opposite ts apart vars named q lt in (
        false_from_ne_true (is_conflict ts c) (λ all. both_ways (is_false ts (literal_at ts q)) not_false (each-has (is_false ts) c (literal_at ts q) all inside)),
        λ l. false_from_ne_true (forces ts c l) (λ e.
            let f = forced-parts ts c l e in
            elim (f.others (literal_at ts q) inside) [
              | inl is ↦ both_ways (has_literal ts l) f.not_true (ap (has_literal ts) is ∙ has-at ts q lt)
              | inr off ↦ both_ways (is_false ts (literal_at ts q)) not_false off
            ]),
      )

  pair-open : (starts : List ℕ) (pair : Pair) → IsWatching ts (length ts) starts c pair → HasStatus ts c Open
  pair-open starts pair h =
      let in_order : AreWatched pair pair.first.number pair.second.number = inl (refl, refl) in
      let turned_round : AreWatched pair pair.second.number pair.first.number = inr (refl, refl) in
      elim (cases_Bool (is_false ts pair.first.number)) [
        | inl off ↦
            let p = has-place ts (opposite pair.first.number) off in
            let r = h.beside pair.first.number pair.second.number in_order p.0 p.1 p.2 in
            open-true r.place r.within (ap (has_literal c) r.literal ∙ h.inside pair.second.number pair.first.number turned_round)
        | inr first_unassigned ↦ elim (cases_Bool (is_false ts pair.second.number)) [
          | inl off ↦
              let p = has-place ts (opposite pair.second.number) off in
              let r = h.beside pair.second.number pair.first.number turned_round p.0 p.1 p.2 in
              open-true r.place r.within (ap (has_literal c) r.literal ∙ h.inside pair.first.number pair.second.number in_order)
          | inr second_open ↦ elim h.two [
            | inl differ ↦ open-two pair.first.number pair.second.number differ (h.inside pair.first.number pair.second.number in_order)
                (h.inside pair.second.number pair.first.number turned_round) first_unassigned second_open
            | inr now ↦ open-true now.place now.within (ap (has_literal c) now.literal ∙ h.inside pair.first.number pair.second.number in_order)
          ]
        ]
      ]

pub watched-closed : (ts : List ℤ) → IsApart ts → (vars : ℕ) → All (Names vars) ts → (room : ℕ) (cs : List (List ℤ)) (propagated : ℕ) (starts : List ℕ) (w : Watches)
    → length w.pairs.items ≡ length cs → propagated ≡ length ts → IsWatched room cs ts propagated starts w → IsClosed cs ts
watched-closed ts apart vars named room cs propagated starts w count all h k d lt =
    let c = get_or cs k d in
    let known = slice_get-get_or cs k d lt in
    let i : k < length w.pairs.items = omega (arith, lt, count) in
    let p = some-at w.pairs.items k i in
    pair-open ts apart vars named c starts p.0 (subst (λ n. IsWatching ts n starts c p.0) all (h.watching k c p.0 known p.1))
