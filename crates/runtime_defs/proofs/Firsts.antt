-- The first of some faults, part by part.
use Rattle.std.proofs.Common.{◌≡◌, true, false, List, [], ◌∷◌, ◌++◌, Option, Some, None, is_some, Result, Ok, Err, append_assoc, refl, sym, ap, ◌∙◌}
use Rattle.std.specs.Prelude.{IfOk, option_map}
use Rattle.cocoon_num.specs.Lists.{first_of}
use Rattle.cocoon_num.specs.Tree.{Design}
use Rattle.cocoon_types.specs.DefsRules as rules
use Rattle.runtime_defs.specs.declared.fault.DefsFault.{DefsFault}
use Rattle.runtime_defs.specs.Faults.{IsFirst}

-- none is first where there is none
pub none-is : (d : Design) (xs : List rules.DefsFault) → IsFirst d xs None → xs ≡ []
none-is d [] h = refl
none-is d (x ∷ xs) h = absurd cc

pub first-there : (d : Design) (xs ys : List rules.DefsFault) (f : DefsFault) → IsFirst d xs (Some f) → IsFirst d (xs ++ ys) (Some f)
first-there d [] ys f h = absurd cc
first-there d (x ∷ xs) ys f h = h

pub first-behind : (d : Design) (xs ys : List rules.DefsFault) (r : Option DefsFault) → IsFirst d xs None → IsFirst d ys r → IsFirst d (xs ++ ys) r
first-behind d [] ys r h k = k
first-behind d (x ∷ xs) ys r h k = absurd cc

pub first-given : (d : Design) (xs ys : List rules.DefsFault) (o : Option DefsFault) → is_some o ≡ true → IsFirst d xs o → IsFirst d (xs ++ ys) o
first-given d xs ys None s h = absurd cc
first-given d xs ys (Some f) s h = first-there d xs ys f h

pub first-after : (d : Design) (xs ys : List rules.DefsFault) (o r : Option DefsFault) → is_some o ≡ false → IsFirst d xs o → IsFirst d ys r → IsFirst d (xs ++ ys) r
first-after d xs ys None r s h k = first-behind d xs ys r h k
first-after d xs ys (Some f) r s h k = absurd cc

pub none-given : (d : Design) (xs : List rules.DefsFault) (o : Option DefsFault) → is_some o ≡ false → IsFirst d xs o → xs ≡ []
none-given d xs None s h = none-is d xs h
none-given d xs (Some f) s h = absurd cc

-- what holds of a value holds more of it
pub if-ok : {T E : Type 0} (P Q : T → Type 0) (r : Result T E) → ((x : T) → P x → Q x) → IfOk r P → IfOk r Q
if-ok P Q (Ok x) f h = f x h
if-ok P Q (Err e) f h = tt

-- four parts in order, as they are tried
pub in-order : (d : Design) (a b c e : List rules.DefsFault) (o : Option DefsFault) → IsFirst d (a ++ (b ++ (c ++ e))) o → IsFirst d (((a ++ b) ++ c) ++ e) o
in-order d a b c e o h = h ∙ sym (ap (λ xs. option_map Some (first_of xs)) (append_assoc (a ++ b) c e ∙ append_assoc a b (c ++ e)))
