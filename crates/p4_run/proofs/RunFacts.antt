-- What resolved statements leave, and what a loaded program holds of them.
use Rattle.std.proofs.Common.{◌≡◌, ℕ, Bool, true, List, [], ◌∷◌, Option, Some, None, option_map, refl, sym, ◌∙◌, ap, subst}
use Rattle.std.proofs.lemmas.Bool.{and_from, and_parts}
use Rattle.cocoon_num.specs.Packets.{Layout}
use Rattle.packed_fields.specs.AtOnce.{widths_in}
use Rattle.p4_ir.specs.P4Tree.{field_widths, Program, program_layout, TableRows}
use Rattle.p4_ir.specs.Switch.{Outcome, p4_run_all, State, state_of}
use Rattle.p4_run.specs.Held.{Held, held}
use Rattle.p4_run.specs.Controls.{control_in, running_in}
use Rattle.p4_run.specs.RegisterStates.{Fit, state_at, state_in, Suits}
use Rattle.p4_run.specs.declared.registers.Registers.{Registers}
use Rattle.p4_run.specs.Doing.{DoesAll, outcome_at}
use Rattle.p4_run.specs.Effects.{ended, goes_on, left, ran, Ran, Effect}
use Rattle.p4_run.specs.declared.running.Way.{Way}
use Rattle.p4_run.specs.declared.running.Way.TheVariants.{Proceeds, Returned}
use Rattle.p4_run.specs.declared.stmt_codes.Application.{Application}
use Rattle.p4_run.specs.Runs.{held_fits, listed, Runs}
use Rattle.p4_run.specs.States.{fields_fit}
use Rattle.p4_run.proofs.FitFacts.{fit_true, true_fit}

state_left : (layout : Layout) (o : Ran) → state_of (outcome_at layout o) ≡ state_at layout (left o)
state_left layout (goes_on h) = refl
state_left layout (ended h) = refl

pub runs_of : (p : Program) (rows : List TableRows) (b : Bool) (tables : List Application) (f : Effect) → DoesAll p rows b tables (control_in p b).body f → Runs p rows b tables f
runs_of p rows b tables f d h u =
    let o = f tables h in
    let kept = (d.keeps h u).suits in (
      ap (option_map (λ (x : Outcome). listed (state_of x))) (d.outcome h u) ∙ ap (λ s. Some (listed s)) (state_left (program_layout p) o),
      and_from (fields_fit (widths_in (program_layout p)) (left o).fields) (fields_fit (field_widths p.meta) (left o).meta)
          (true_fit (widths_in (program_layout p)) (left o).fields kept.fields) (true_fit (field_widths p.meta) (left o).meta kept.meta),
    )

-- ---- back

abbrev unlisted : List (List ℕ) → State
unlisted ((v ∷ e ∷ g ∷ []) ∷ meta ∷ packet) = record { packet = packet; meta = meta; verdict = v; egress_port = e; group = g }
unlisted _ = record { packet = []; meta = []; verdict = 0; egress_port = 0; group = 0 }

some_lists : (x y : List (List ℕ)) → ◌≡◌ {A = Option (List (List ℕ))} (Some x) (Some y) → x ≡ y
some_lists x y h = cc

from_listed : (o : Option Outcome) (s : State) → option_map (λ (x : Outcome). listed (state_of x)) o ≡ Some (listed s) → option_map state_of o ≡ Some s
from_listed None s h = absurd (cc)
from_listed (Some x) s h = ap (λ xs. Some (unlisted xs)) (some_lists (listed (state_of x)) (listed s) h)

way_left : (way : Way) (h : Held) → left (ran way h) ≡ h
way_left Proceeds h = refl
way_left Returned h = refl

-- what the registers hold in the end
pub record Ends (p : Program) (rows : List TableRows) (b : Bool) (old new : Registers) : Type 0 where
  pub fit : Fit p new
  pub left_is : option_map state_of (p4_run_all (running_in p rows b old.own) (control_in p b).body (state_in (program_layout p) old)) ≡ Some (state_in (program_layout p) new)

pub ends : (p : Program) (rows : List TableRows) (b : Bool) (tables given : List Application) (f g : Effect) (way : Way) (old new : Registers) → Runs p rows b tables f → Suits p b (held old)
    → given ≡ tables → g ≡ f → ran way (held new) ≡ g given (held old) → Ends p rows b old new
ends p rows b tables given f g way old new runs u e d r =
    let is : left (f tables (held old)) ≡ held new = ap left (sym ((r ∙ (λ i. d i (e i) (held old))))) ∙ way_left way (held new) in
    let own = runs (held old) u in
    let fits : held_fits p (held new) ≡ true = subst (λ h. held_fits p h ≡ true) is own.1 in
    let parts = and_parts (fields_fit (widths_in (program_layout p)) new.fields.items) (fields_fit (field_widths p.meta) new.meta.items) fits in
    record {
      fit = record { fields = fit_true (widths_in (program_layout p)) new.fields.items parts.0; meta = fit_true (field_widths p.meta) new.meta.items parts.1 };
      left_is = from_listed _ (state_in (program_layout p) new) (own.0 ∙ ap (λ h. Some (listed (state_at (program_layout p) h))) is);
    }
