-- Tables of arguments, each once.
use Rattle.std.proofs.Common.{◌≡◌, ℕ, Bool, true, false, cond, List, [], ◌∷◌, ◌++◌, map, length, Option, Some, None, if◌then◌else◌, is_some, refl, sym, ap, ap₂, subst, ◌∙◌, Vec, Global, BTreeMap}
use Rattle.std.specs.Option.{option_or}
use Rattle.std.specs.BTreeMap.{UpdatesBy}
use Rattle.std.proofs.lemmas.List.{length-map, map-append}
use Rattle.cocoon_num.specs.Names.{same_name}
use Rattle.declarations.specs.NameNumbers.{index_of, with_name}
use Rattle.declarations.proofs.NameFacts.{index-append, key_cmp, same-true, value-updated}
use Rattle.lower_rows.specs.Numbered.{Holds, held_index}
use Rattle.lower_rows.specs.declared.args_table.ArgsTable.{ArgsTable}

or-none : {A : Type 0} (o : Option A) → option_or o None ≡ o
or-none None = refl
or-none (Some a) = refl

pick-same : (b : Bool) (n : ℕ) → cond b (Some n) None ≡ option_or None (if b then Some n else None)
pick-same true n = refl
pick-same false n = refl

abbrev items-of : Vec ℕ Global → List ℕ
items-of v = v.items

more-names : (ns : List (List ℕ)) (x : List ℕ) (o : Option ℕ) → o ≡ None → (if is_some o then ns else ns ++ x ∷ []) ≡ ns ++ x ∷ []
more-names ns x o h = ap (λ (p : Option ℕ). if is_some p then ns else ns ++ x ∷ []) h

-- arguments that are not there
pub args-new : (old : ArgsTable) (held : BTreeMap (Vec ℕ Global) ℕ) (lists : Vec (Vec ℕ Global) Global) (k v : Vec ℕ Global) (x : List ℕ) (at : ℕ) (ns : List (List ℕ))
    → Holds old ns → held_index old x ≡ None → k.items ≡ x → v.items ≡ x → at ≡ length old.lists.items → UpdatesBy key_cmp (key_cmp k) old.held held (Some at)
    → lists.items ≡ old.lists.items ++ v ∷ []
    → Holds (record { held = held; lists = lists }) (with_name ns x)
args-new old held lists k v x at ns h none same copy here up put = subst (λ l. Holds (record { held = held; lists = lists }) l) (sym (more-names ns x (index_of x ns) (sym (h.numbers x) ∙ none))) (record {
  numbers = λ y. value-updated old.held held k (Some at) up y ∙ by y (same_name y x) refl ∙ sym (index-append y ns x);
  lists = ap (map items-of) put ∙ map-append items-of old.lists.items (v ∷ []) ∙ ap₂ (λ (a : List (List ℕ)) (b : List ℕ). a ++ b ∷ []) h.lists copy;
})
  where
    count : at ≡ length ns
    count = here ∙ sym (length-map old.lists.items items-of) ∙ ap length h.lists

    by : (y : List ℕ) (b : Bool) → same_name y x ≡ b
        → cond (same_name y k.items) (Some at) (held_index old y) ≡ option_or (index_of y ns) (if same_name y x then Some (length ns) else None)
    by y true e =
        ap₂ (λ z o. cond (same_name y z) (Some at) o) same (ap (held_index old) (same-true y x e) ∙ none)
        ∙ pick-same (same_name y x) at
        ∙ ap₂ (λ n o. option_or o (if same_name y x then Some n else None)) count (sym none ∙ ap (held_index old) (sym (same-true y x e)) ∙ h.numbers y)
    by y false e =
        ap₂ (λ z o. cond (same_name y z) (Some at) o) same (h.numbers y)
        ∙ ap (λ c. cond c (Some at) (index_of y ns)) e
        ∙ sym (or-none (index_of y ns))
        ∙ ap (λ c. option_or (index_of y ns) (if c then Some (length ns) else None)) (sym e)

-- arguments that are there
pub args-old : (t : ArgsTable) (x : List ℕ) (ns : List (List ℕ)) → Holds t ns → is_some (held_index t x) ≡ true → Holds t (with_name ns x)
args-old t x ns h some =
    subst (λ l. Holds t l) (sym (ap (λ (b : Bool). if b then ns else ns ++ x ∷ []) (ap is_some (sym (h.numbers x)) ∙ some))) h
