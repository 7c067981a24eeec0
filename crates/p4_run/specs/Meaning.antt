-- Cited by the clauses of evaluating and of making: what a resolved expression gives of what registers hold.
use Rattle.std.specs.Prelude.{ℕ, ◌+◌, ◌-◌, ◌*◌, ◌/◌, ◌%◌, ◌^◌, ◌==◌, ◌&&◌, ◌||◌, Bool, not, nat_lt, nat_le, bit_and, bit_or, bit_xor, get_or, if◌then◌else◌}
use Rattle.p4_run.specs.Held.{Held}
use Rattle.p4_run.specs.declared.expr_codes.NumberCode.{NumberCode, fold-NumberCode}
use Rattle.p4_run.specs.declared.expr_codes.NumberCode.TheOpen.{NumberCode-F, TruthCode-F}
use Rattle.p4_run.specs.declared.expr_codes.TruthCode.{TruthCode, fold-TruthCode}

abbrev pub Numbers : Type 0
Numbers = Held → ℕ

abbrev pub Truths : Type 0
Truths = Held → Bool

-- one level, with each part already seen
abbrev pub number_step : NumberCode-F Numbers Truths → Numbers
number_step (NumberCode-F.Literal n) = λ h. n
number_step (NumberCode-F.Field i) = λ h. get_or h.fields i 0
number_step (NumberCode-F.Meta i) = λ h. get_or h.meta i 0
number_step NumberCode-F.Own = λ h. h.own
number_step (NumberCode-F.Flip a m) = λ h. (m + (2 ^ 128 - a.value h)) % 2 ^ 128
number_step (NumberCode-F.Add a b m) = λ h. bit_and ((a.value h + b.value h) % 2 ^ 128) m
number_step (NumberCode-F.Sub a b m) = λ h. bit_and ((a.value h + (2 ^ 128 - b.value h)) % 2 ^ 128) m
number_step (NumberCode-F.And a b) = λ h. bit_and (a.value h) (b.value h)
number_step (NumberCode-F.Or a b) = λ h. bit_or (a.value h) (b.value h)
number_step (NumberCode-F.Xor a b) = λ h. bit_xor (a.value h) (b.value h)
number_step (NumberCode-F.Join a b k) = λ h. bit_or (a.value h * 2 ^ k.by % 2 ^ 128) (b.value h)
number_step (NumberCode-F.Slice a k m) = λ h. bit_and (a.value h / 2 ^ k.by) m
number_step (NumberCode-F.Pick c a b) = λ h. if c.value h then a.value h else b.value h

abbrev pub truth_step : TruthCode-F Numbers Truths → Truths
truth_step (TruthCode-F.Constant b) = λ h. b
truth_step (TruthCode-F.Not a) = λ h. not (a.value h)
truth_step (TruthCode-F.Both a b) = λ h. a.value h && b.value h
truth_step (TruthCode-F.Either a b) = λ h. a.value h || b.value h
truth_step (TruthCode-F.Equal a b) = λ h. a.value h == b.value h
truth_step (TruthCode-F.Unequal a b) = λ h. not (a.value h == b.value h)
truth_step (TruthCode-F.Less a b) = λ h. nat_lt (a.value h) (b.value h)
truth_step (TruthCode-F.LessEqual a b) = λ h. nat_le (a.value h) (b.value h)
truth_step (TruthCode-F.Choose c a b) = λ h. if c.value h then a.value h else b.value h

-- the number that an expression gives
abbrev pub number_by : NumberCode → Numbers
number_by = fold-NumberCode Numbers Truths number_step truth_step

-- the truth value that one gives
abbrev pub truth_by : TruthCode → Truths
truth_by = fold-TruthCode Numbers Truths number_step truth_step
