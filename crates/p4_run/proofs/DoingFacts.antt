-- Resolved statements do what the statements do that they were made of.
use Rattle.std.proofs.Common.{All, ◌≡◌, ℕ, zero, suc, ◌+◌, ◌%◌, ◌<◌, ◌≤◌, ◌^◌, Bool, true, false, if◌then◌else◌, List, [], ◌∷◌, ◌++◌, length, map, drop}
use Rattle.std.proofs.Common.{take, get_or, slice_get, slice_set, Option, Some, None, option_map, option_and_then, Vec, Global, refl, sym, ap, subst, ◌∙◌, rules, arith}
use Rattle.std.proofs.Math.Nat.{mod-eq_of_lt, pow-le-pow_right}
use Rattle.std.proofs.lemmas.Bool.{and_parts, eqb-true}
use Rattle.std.proofs.lemmas.List.{drop_more}
use Rattle.std.proofs.lemmas.Option.{slice_get-get_or}
use Rattle.cocoon_num.specs.PacketForms.{FieldsFit}
use Rattle.cocoon_num.specs.Packets.{Layout}
use Rattle.cocoon_num.specs.Sorts.{are_same, bits_sort, has_sort, same_sort, Sort, truth_sort}
use Rattle.cocoon_num.specs.Values.{number, truth, Value}
use Rattle.packed_fields.specs.AtOnce.{grouped, widths_in}
use Rattle.packed_fields.proofs.Packing.{fit_length}
use Rattle.packed_fields.proofs.Steps.{width_is}
use Rattle.row_search.specs.Keyed.{keyed}
use Rattle.numbering.specs.NumberPlaces.{place_of}
use Rattle.p4_ir.specs.Loading.{table_numbers}
use Rattle.p4_ir.specs.P4Kinds.{block_fits, field_sort, meta_sort, p4_sort, stmt_fits, widths_fit, Within}
use Rattle.p4_ir.specs.P4Tree.{P4Expr, P4Field, P4Header, P4Block, P4Stmt, set_meta, set_header, apply_table, p_if, p_if_else}
use Rattle.p4_ir.specs.P4Tree.{verdict, egress_port, group, p_return, field_widths, P4Table, Program, program_layout, TableRows}
use Rattle.p4_ir.specs.Program.{block_of, stmt_of}
use Rattle.p4_ir.specs.Switch.{all_there, choose, Outcome, p4_run_all, proceeds, set_in_header, setting, State, table_result, then_run}
use Rattle.p4_ir.specs.declared.program.P4Stmt.{P4Stmt as ProgramStmt}
use Rattle.p4_run.specs.Doing.{Does, DoesAll, EachDoes, IsTable, Keeps, outcome_at}
use Rattle.p4_run.specs.Held.{Held}
use Rattle.p4_run.specs.Meaning.{number_by, truth_by}
use Rattle.p4_run.specs.Places.{starts_from}
use Rattle.p4_run.specs.Resolving.{GivesNumbers, GivesTruths}
use Rattle.p4_run.specs.Controls.{running_in, within_in}
use Rattle.p4_run.specs.RegisterStates.{state_at, Suits}
use Rattle.p4_run.specs.Effects.{applied_at, Effect, ended, goes_on, left, Ran, stmt_by, stmts_by, then_on}
use Rattle.p4_run.specs.declared.expr_codes.NumberCode.{NumberCode}
use Rattle.p4_run.specs.declared.expr_codes.TruthCode.{TruthCode}
use Rattle.p4_run.specs.declared.stmt_codes.Application.{Application}
use Rattle.p4_run.specs.declared.stmt_codes.StmtCode as codes
use Rattle.p4_run.specs.declared.stmt_codes.StmtCode.{StmtCode}
use Rattle.p4_run.specs.declared.stmt_codes.StmtCode.TheVariants.{SetMeta, SetField, Apply, If, IfElse, Verdict, EgressPort, Group, Return}
use Rattle.p4_run.proofs.FieldFacts.{field_is, FieldIs}
use Rattle.p4_run.proofs.HeaderParts.{fit_set}
use Rattle.p4_run.proofs.WidthFacts.{field_sorted_at, meta_counted, meta_sorted_at, meta_width_is, widths_of}

-- ---- what the nodes do

pub by_set_meta : (i : ℕ) (n : NumberCode) → stmt_by (SetMeta i n) ≡ (λ tables h. goes_on (record h { meta = slice_set h.meta i (number_by n h % 2 ^ 64) }))
by_set_meta i n = search (rules, codes.the_lemmas)

pub by_set_field : (i : ℕ) (n : NumberCode) → stmt_by (SetField i n) ≡ (λ tables h. goes_on (record h { fields = slice_set h.fields i (number_by n h % 2 ^ 64) }))
by_set_field i n = search (rules, codes.the_lemmas)

pub by_apply : (i : ℕ) → stmt_by (Apply i) ≡ (λ tables h. goes_on (record h { meta = applied_at tables i h.meta }))
by_apply i = search (rules, codes.the_lemmas)

pub by_if : (t : TruthCode) (first : Vec StmtCode Global) → stmt_by (If t first) ≡ (λ tables h. if truth_by t h then stmts_by (map stmt_by first.items) tables h else goes_on h)
by_if t first = search (rules, codes.the_lemmas)

pub by_if_else : (t : TruthCode) (first second : Vec StmtCode Global)
    → stmt_by (IfElse t first second) ≡ (λ tables h. if truth_by t h then stmts_by (map stmt_by first.items) tables h else stmts_by (map stmt_by second.items) tables h)
by_if_else t first second = search (rules, codes.the_lemmas)

pub by_verdict : (n : ℕ) → stmt_by (Verdict n) ≡ (λ tables h. goes_on (record h { verdict = n }))
by_verdict n = search (rules, codes.the_lemmas)

pub by_egress_port : (n : NumberCode) → stmt_by (EgressPort n) ≡ (λ tables h. goes_on (record h { egress_port = number_by n h % 2 ^ 16 }))
by_egress_port n = search (rules, codes.the_lemmas)

pub by_group : (n : NumberCode) → stmt_by (Group n) ≡ (λ tables h. goes_on (record h { group = number_by n h % 2 ^ 16 }))
by_group n = search (rules, codes.the_lemmas)

pub by_return : stmt_by Return ≡ (λ tables h. ended h)
by_return = search (rules, codes.the_lemmas)

-- ---- types

same_sorts : (s t : Sort) → same_sort s t ≡ true → s ≡ t
same_sorts (bits_sort v) (bits_sort w) h = ap bits_sort (eqb-true v w h)
same_sorts (bits_sort v) truth_sort h = absurd (cc)
same_sorts truth_sort (bits_sort w) h = absurd (cc)
same_sorts truth_sort truth_sort h = refl

pub has_sort_some : (s : Sort) (o : Option Sort) → has_sort s o ≡ true → o ≡ Some s
has_sort_some s None h = absurd (cc)
has_sort_some s (Some t) h = ap Some (sym (same_sorts s t h))

pub are_same_some : (a b : Option Sort) → are_same a b ≡ true → (s : Sort) × (a ≡ Some s) × (b ≡ Some s)
are_same_some None b h = absurd (cc)
are_same_some (Some s) b h = (s, refl, has_sort_some s b h)

some_is : (x y : Sort) → ◌≡◌ {A = Option Sort} (Some x) (Some y) → x ≡ y
some_is x y g = cc

bits_alone : (fs : List P4Field) (i : ℕ) (s : Sort) → option_map (λ (f : P4Field). bits_sort f.width) (slice_get fs i) ≡ Some s → (w : ℕ) × (s ≡ bits_sort w)
bits_alone [] i s h = absurd (cc)
bits_alone (f ∷ fs) zero s h = (f.width, sym (some_is (bits_sort f.width) s h))
bits_alone (f ∷ fs) (suc i) s h = bits_alone fs i s h

field_alone : (hs : List P4Header) (i f : ℕ) (s : Sort)
    → option_and_then (λ (d : P4Header). option_map (λ (x : P4Field). bits_sort x.width) (slice_get d.fields f)) (slice_get hs i) ≡ Some s → (w : ℕ) × (s ≡ bits_sort w)
field_alone [] i f s h = absurd (cc)
field_alone (d ∷ hs) zero f s h = bits_alone d.fields f s h
field_alone (d ∷ hs) (suc i) f s h = field_alone hs i f s h

-- both have the type of a width
pub record Alike (x y : Option Sort) : Type 0 where
  pub width : ℕ
  pub first : x ≡ Some (bits_sort width)
  pub second : y ≡ Some (bits_sort width)

pub meta_alike : (p : Program) (b : Bool) (i : ℕ) (e : P4Expr) → stmt_fits (within_in p b) (set_meta i e) ≡ true → Alike (meta_sort p i) (p4_sort (within_in p b) e)
meta_alike p b i e h =
    let both = are_same_some (meta_sort p i) (p4_sort (within_in p b) e) h in
    let bits = bits_alone p.meta i both.0 both.1 in
    record { width = bits.0; first = both.1 ∙ ap Some bits.1; second = both.2 ∙ ap Some bits.1 }

pub field_alike : (p : Program) (b : Bool) (i f : ℕ) (e : P4Expr) → stmt_fits (within_in p b) (set_header i f e) ≡ true → Alike (field_sort p i f) (p4_sort (within_in p b) e)
field_alike p b i f e h =
    let both = are_same_some (field_sort p i f) (p4_sort (within_in p b) e) h in
    let bits = field_alone p.headers i f both.0 both.1 in
    record { width = bits.0; first = both.1 ∙ ap Some bits.1; second = both.2 ∙ ap Some bits.1 }

-- ---- numbers

low_is : (n w m : ℕ) → w ≤ m → n < 2 ^ w → n % 2 ^ m ≡ n
low_is n w m l h = let top : 2 ^ w ≤ 2 ^ m = pow-le-pow_right {n = 2} (omega arith) l in mod-eq_of_lt (omega (arith, top, h))

-- what is set is the number of an expression
set_outcome : (v : Option Value) (w n : ℕ) (f : ℕ → State) → v ≡ Some (number w n) → setting v f ≡ Some (proceeds (f n))
set_outcome v w n f e = ap (λ o. setting o f) e

pub does_set_meta : (p : Program) (rows : List TableRows) (b : Bool) (tables : List Application) (i w : ℕ) (e : P4Expr) (n : NumberCode) → widths_fit p ≡ true
    → meta_sort p i ≡ Some (bits_sort w) → GivesNumbers p b e w (number_by n) → Does p rows b tables (set_meta i e) (stmt_by (SetMeta i n))
does_set_meta p rows b tables i w e n k s g =
    let at = meta_sorted_at p.meta i w s in
    let narrow : w ≤ 64 = subst (λ v. v ≤ 64) at.1 (width_is (field_widths p.meta) i (widths_of p k).meta at.0) in
    subst (Does p rows b tables (set_meta i e)) (sym (by_set_meta i n)) (record {
      outcome = λ h u.
          set_outcome _ w (number_by n h) (λ x. record (state_at (program_layout p) h) { meta = slice_set h.meta i x }) (g.value rows h u)
          ∙ ap (λ x. Some (proceeds (state_at (program_layout p) (record h { meta = slice_set h.meta i x })))) (sym (low_is (number_by n h) w 64 narrow (g.fits h u)));
      keeps = λ h u. record {
        suits = record {
          fields = u.fields;
          meta = fit_set (field_widths p.meta) h.meta i (number_by n h % 2 ^ 64) u.meta
              (subst (λ x. x < 2 ^ get_or (field_widths p.meta) i 0) (sym (low_is (number_by n h) w 64 narrow (g.fits h u))) (subst (λ v. number_by n h < 2 ^ v) (sym at.1) (g.fits h u)));
          own = u.own;
        };
        own = refl;
      };
    })

pub does_set_field : (p : Program) (rows : List TableRows) (b : Bool) (tables : List Application) (starts : List ℕ) (i f j w : ℕ) (e : P4Expr) (n : NumberCode) → widths_fit p ≡ true
    → starts ≡ starts_from 0 (program_layout p) → j ≡ get_or starts i 0 + f → field_sort p i f ≡ Some (bits_sort w) → GivesNumbers p b e w (number_by n)
    → Does p rows b tables (set_header i f e) (stmt_by (SetField j n))
does_set_field p rows b tables starts i f j w e n k st place s g =
    let layout = program_layout p in
    let at = field_sorted_at p.headers i f w s in
    let facts : (h : Held) → Suits p b h → FieldIs layout starts h.fields i f w =
    λ h u. field_is layout starts h.fields (get_or layout i []) i f w st at.header at.within (sym at.width) u.fields (widths_of p k).fields in
    subst (Does p rows b tables (set_header i f e)) (sym (by_set_field j n)) (record {
      outcome = λ h u.
          let low = low_is (number_by n h) w 64 (facts h u).narrow (g.fits h u) in
          set_outcome _ w (number_by n h) (λ x. record (state_at layout h) { packet = set_in_header (grouped layout h.fields) i f x }) (g.value rows h u)
          ∙ ap (λ ps. Some (proceeds (record (state_at layout h) { packet = ps }))) (sym ((facts h u).sets (number_by n h)))
          ∙ (λ x. Some (proceeds (state_at layout (record h { fields = slice_set h.fields (sym place x) (sym low x) }))));
      keeps = λ h u.
          let low = low_is (number_by n h) w 64 (facts h u).narrow (g.fits h u) in
          record {
            suits = record {
              fields = subst (λ x. FieldsFit (widths_in layout) (slice_set h.fields j x)) (sym low)
                  (subst (λ x. FieldsFit (widths_in layout) (slice_set h.fields x (number_by n h))) (sym place) ((facts h u).fits (number_by n h) (g.fits h u)));
              meta = u.meta;
              own = u.own;
            };
            own = refl;
          };
    })

pub does_verdict : (p : Program) (rows : List TableRows) (b : Bool) (tables : List Application) (n : ℕ) → Does p rows b tables (verdict n) (stmt_by (Verdict n))
does_verdict p rows b tables n = subst (Does p rows b tables (verdict n)) (sym (by_verdict n)) (record {
  outcome = λ h u. refl;
  keeps = λ h u. record { suits = record { fields = u.fields; meta = u.meta; own = u.own }; own = refl };
})

pub does_egress_port : (p : Program) (rows : List TableRows) (b : Bool) (tables : List Application) (e : P4Expr) (n : NumberCode) → GivesNumbers p b e 16 (number_by n)
    → Does p rows b tables (egress_port e) (stmt_by (EgressPort n))
does_egress_port p rows b tables e n g = subst (Does p rows b tables (egress_port e)) (sym (by_egress_port n)) (record {
  outcome = λ h u.
      set_outcome _ 16 (number_by n h) (λ x. record (state_at (program_layout p) h) { egress_port = x }) (g.value rows h u)
      ∙ ap (λ x. Some (proceeds (state_at (program_layout p) (record h { egress_port = x })))) (sym (low_is (number_by n h) 16 16 (omega arith) (g.fits h u)));
  keeps = λ h u. record { suits = record { fields = u.fields; meta = u.meta; own = u.own }; own = refl };
})

pub does_group : (p : Program) (rows : List TableRows) (b : Bool) (tables : List Application) (e : P4Expr) (n : NumberCode) → GivesNumbers p b e 16 (number_by n)
    → Does p rows b tables (group e) (stmt_by (Group n))
does_group p rows b tables e n g = subst (Does p rows b tables (group e)) (sym (by_group n)) (record {
  outcome = λ h u.
      set_outcome _ 16 (number_by n h) (λ x. record (state_at (program_layout p) h) { group = x }) (g.value rows h u)
      ∙ ap (λ x. Some (proceeds (state_at (program_layout p) (record h { group = x })))) (sym (low_is (number_by n h) 16 16 (omega arith) (g.fits h u)));
  keeps = λ h u. record { suits = record { fields = u.fields; meta = u.meta; own = u.own }; own = refl };
})

pub does_return : (p : Program) (rows : List TableRows) (b : Bool) (tables : List Application) → Does p rows b tables p_return (stmt_by Return)
does_return p rows b tables = subst (Does p rows b tables p_return) (sym by_return) (record {
  outcome = λ h u. refl;
  keeps = λ h u. record { suits = u; own = refl };
})

-- ---- tables

-- the numbers in the keys are all there
pub all_keyed : (meta ks : List ℕ) → All (λ i. i < length meta) ks → all_there meta ks ≡ Some (keyed meta ks)
all_keyed meta [] h = refl
all_keyed meta (k ∷ ks) h =
    let first : slice_get meta k ≡ Some (get_or meta k 0) = slice_get-get_or meta k 0 (h zero 0 (omega arith)) in
    let rest : all_there meta ks ≡ Some (keyed meta ks) = all_keyed meta ks (λ i d l. h (suc i) d (omega arith)) in
    (λ i. option_and_then (λ n. option_map (λ more. n ∷ more) (rest i)) (first i))

abbrev applied_by : State → Option P4Table → Option TableRows → Option State
applied_by s o q =
    option_and_then (λ (t : P4Table). option_and_then (λ (r : TableRows). option_map
    (λ xs. record s { meta = slice_set s.meta t.result (table_result r.rows r.otherwise xs) }) (all_there s.meta t.keys)) q) o

pub does_apply : (p : Program) (rows : List TableRows) (b : Bool) (tables : List Application) (n j : ℕ) (t : P4Table) (r : TableRows) → IsTable p rows b tables n t r
    → j ≡ place_of (table_numbers rows) n → Does p rows b tables (apply_table n) (stmt_by (Apply j))
does_apply p rows b tables n j t r is place =
    let layout = program_layout p in
    let many : (h : Held) → Suits p b h → length h.meta ≡ length p.meta = λ h u. sym (fit_length (field_widths p.meta) h.meta u.meta) ∙ meta_counted p.meta in
    let found : (h : Held) → ℕ = λ h. table_result r.rows r.otherwise (keyed h.meta t.keys) in
    let sets : (h : Held) → Suits p b h → applied_at tables j h.meta ≡ slice_set h.meta t.result (found h) =
    λ h u. ap (λ x. applied_at tables x h.meta) place ∙ is.applies h.meta (many h u) in
    subst (Does p rows b tables (apply_table n)) (sym (by_apply j)) (record {
      outcome = λ h u.
          let there : all_there h.meta t.keys ≡ Some (keyed h.meta t.keys) = all_keyed h.meta t.keys (subst (λ x. All (λ i. i < x) t.keys) (sym (many h u)) is.keys) in
          (λ i. option_map proceeds (applied_by (state_at layout h) (is.table i) (is.rows_are i)))
          ∙ ap (λ o. option_map proceeds (option_map (λ xs. record (state_at layout h) { meta = slice_set h.meta t.result (table_result r.rows r.otherwise xs) }) o)) there
          ∙ ap (λ ns. Some (proceeds (state_at layout (record h { meta = ns })))) (sym (sets h u));
      keeps = λ h u. record {
        suits = record {
          fields = u.fields;
          meta = subst (FieldsFit (field_widths p.meta)) (sym (sets h u))
              (fit_set (field_widths p.meta) h.meta t.result (found h) u.meta (subst (λ w. found h < 2 ^ w) (meta_width_is p t.result) (is.small (keyed h.meta t.keys))));
          own = u.own;
        };
        own = refl;
      };
    })

-- ---- choices

chosen : (layout : Layout) (c : Bool) (x y : Ran) (a d : Option Outcome) → a ≡ Some (outcome_at layout x) → d ≡ Some (outcome_at layout y)
    → choose (Some (truth c)) a d ≡ Some (outcome_at layout (if c then x else y))
chosen layout true x y a d e f = e
chosen layout false x y a d e f = f

kept : (p : Program) (b : Bool) (h : Held) (c : Bool) (x y : Ran) → Keeps p b h x → Keeps p b h y → Keeps p b h (if c then x else y)
kept p b h true x y k l = k
kept p b h false x y k l = l

pub does_if : (p : Program) (rows : List TableRows) (b : Bool) (tables : List Application) (e : P4Expr) (block : P4Block) (t : TruthCode) (first : Vec StmtCode Global)
    → GivesTruths p b e (truth_by t) → DoesAll p rows b tables block (stmts_by (map stmt_by first.items)) → Does p rows b tables (p_if e block) (stmt_by (If t first))
does_if p rows b tables e block t first g d =
    let layout = program_layout p in
    subst (Does p rows b tables (p_if e block)) (sym (by_if t first)) (record {
      outcome = λ h u.
          ap (λ v. choose v (p4_run_all (running_in p rows b h.own) block (state_at layout h)) (Some (proceeds (state_at layout h)))) (g rows h u)
          ∙ chosen layout (truth_by t h) (stmts_by (map stmt_by first.items) tables h) (goes_on h) _ _ (d.outcome h u) refl;
      keeps = λ h u. kept p b h (truth_by t h) (stmts_by (map stmt_by first.items) tables h) (goes_on h) (d.keeps h u) (record { suits = u; own = refl });
    })

pub does_if_else : (p : Program) (rows : List TableRows) (b : Bool) (tables : List Application) (e : P4Expr) (block other : P4Block) (t : TruthCode) (first second : Vec StmtCode Global)
    → GivesTruths p b e (truth_by t) → DoesAll p rows b tables block (stmts_by (map stmt_by first.items)) → DoesAll p rows b tables other (stmts_by (map stmt_by second.items))
    → Does p rows b tables (p_if_else e block other) (stmt_by (IfElse t first second))
does_if_else p rows b tables e block other t first second g d f =
    let layout = program_layout p in
    subst (Does p rows b tables (p_if_else e block other)) (sym (by_if_else t first second)) (record {
      outcome = λ h u.
          ap (λ v. choose v (p4_run_all (running_in p rows b h.own) block (state_at layout h)) (p4_run_all (running_in p rows b h.own) other (state_at layout h))) (g rows h u)
          ∙ chosen layout (truth_by t h) (stmts_by (map stmt_by first.items) tables h) (stmts_by (map stmt_by second.items) tables h) _ _ (d.outcome h u) (f.outcome h u);
      keeps = λ h u.
          kept p b h (truth_by t h) (stmts_by (map stmt_by first.items) tables h) (stmts_by (map stmt_by second.items) tables h) (d.keeps h u) (f.keeps h u);
    })

-- ---- one after another

-- the rest does what is left to do
then_does : (p : Program) (rows : List TableRows) (b : Bool) (tables : List Application) (ss : P4Block) (g : Effect) (own : ℕ) (o : Ran)
    → ((h : Held) → Suits p b h → p4_run_all (running_in p rows b h.own) ss (state_at (program_layout p) h) ≡ Some (outcome_at (program_layout p) (g tables h)))
    → Suits p b (left o) → (left o).own ≡ own
    → then_run (Some (outcome_at (program_layout p) o)) (p4_run_all (running_in p rows b own) ss) ≡ Some (outcome_at (program_layout p) (then_on o (g tables)))
then_does p rows b tables ss g own (goes_on h) f u e = ap (λ n. p4_run_all (running_in p rows b n) ss (state_at (program_layout p) h)) (sym e) ∙ f h u
then_does p rows b tables ss g own (ended h) f u e = refl

then_keeps : (p : Program) (b : Bool) (tables : List Application) (g : Effect) (start : Held) (o : Ran) → ((h : Held) → Suits p b h → Keeps p b h (g tables h)) → Keeps p b start o
    → Keeps p b start (then_on o (g tables))
then_keeps p b tables g start (goes_on h) f k = let more = f h k.suits in record { suits = more.suits; own = more.own ∙ k.own }
then_keeps p b tables g start (ended h) f k = k

pub all_do : (p : Program) (rows : List TableRows) (b : Bool) (tables : List Application) (ss : List P4Stmt) (fs : List Effect) → EachDoes p rows b tables ss fs
    → DoesAll p rows b tables (block_of ss) (stmts_by fs)
all_do p rows b tables [] [] d = record { outcome = λ h u. refl; keeps = λ h u. record { suits = u; own = refl } }
all_do p rows b tables [] (f ∷ fs) d = absurd d
all_do p rows b tables (s ∷ ss) [] d = absurd d
all_do p rows b tables (s ∷ ss) (f ∷ fs) d =
    let rest = all_do p rows b tables ss fs d.1 in
    record {
      outcome = λ h u.
          let k = d.0.keeps h u in
          ap (λ o. then_run o (p4_run_all (running_in p rows b h.own) (block_of ss))) (d.0.outcome h u)
          ∙ then_does p rows b tables (block_of ss) (stmts_by fs) h.own (f tables h) rest.outcome k.suits k.own;
      keeps = λ h u. then_keeps p b tables (stmts_by fs) h (f tables h) rest.keeps (d.0.keeps h u);
    }

one_more : (p : Program) (rows : List TableRows) (b : Bool) (tables : List Application) (ss : List P4Stmt) (fs : List Effect) (s : P4Stmt) (f : Effect)
    → EachDoes p rows b tables ss fs → Does p rows b tables s f → EachDoes p rows b tables (ss ++ s ∷ []) (fs ++ f ∷ [])
one_more p rows b tables [] [] s f d e = (e, tt)
one_more p rows b tables [] (g ∷ fs) s f d e = absurd d
one_more p rows b tables (x ∷ ss) [] s f d e = absurd d
one_more p rows b tables (x ∷ ss) (g ∷ fs) s f d e = (d.0, one_more p rows b tables ss fs s f d.1 e)

taken_more : (stmts : List ProgramStmt) (i : ℕ) (x : ProgramStmt) → i < length stmts → x ≡ get_or stmts i x → map stmt_of (take (i + 1) stmts) ≡ map stmt_of (take i stmts) ++ stmt_of x ∷ []
taken_more [] i x l e = absurd (omega arith)
taken_more (s ∷ stmts) zero x l e = ap (λ (y : ProgramStmt). stmt_of y ∷ []) (sym e)
taken_more (s ∷ stmts) (suc i) x l e =
    let n : suc i + 1 ≡ suc (i + 1) = omega arith in
    ap (λ k. map stmt_of (take k (s ∷ stmts))) n ∙ ap (λ ys. stmt_of s ∷ ys) (taken_more stmts i x (omega arith) e)

codes_more : (codes : List StmtCode) (x : StmtCode) → map stmt_by (codes ++ x ∷ []) ≡ map stmt_by codes ++ stmt_by x ∷ []
codes_more [] x = refl
codes_more (s ∷ codes) x = ap (λ ys. stmt_by s ∷ ys) (codes_more codes x)

-- one more statement was resolved
pub pushed : (p : Program) (rows : List TableRows) (b : Bool) (tables : List Application) (stmts : List ProgramStmt) (codes more : List StmtCode) (i : ℕ) (x : ProgramStmt) (f : StmtCode)
    → i < length stmts → x ≡ get_or stmts i x → more ≡ codes ++ f ∷ [] → EachDoes p rows b tables (map stmt_of (take i stmts)) (map stmt_by codes)
    → Does p rows b tables (stmt_of x) (stmt_by f) → EachDoes p rows b tables (map stmt_of (take (i + 1) stmts)) (map stmt_by more)
pushed p rows b tables stmts codes more i x f l e g d own =
    subst (λ ss. EachDoes p rows b tables ss (map stmt_by more)) (sym (taken_more stmts i x l e))
    (subst (EachDoes p rows b tables (map stmt_of (take i stmts) ++ stmt_of x ∷ [])) (sym (ap (map stmt_by) g ∙ codes_more codes f))
    (one_more p rows b tables (map stmt_of (take i stmts)) (map stmt_by codes) (stmt_of x) (stmt_by f) d own))

pub first_fits : (w : Within) (stmts : List ProgramStmt) (i : ℕ) (x : ProgramStmt) → i < length stmts → x ≡ get_or stmts i x → block_fits w (block_of (map stmt_of (drop i stmts))) ≡ true
    → (stmt_fits w (stmt_of x) ≡ true) × (block_fits w (block_of (map stmt_of (drop (i + 1) stmts))) ≡ true)
first_fits w stmts i x l e h =
    let cut : drop i stmts ≡ x ∷ drop (i + 1) stmts = drop_more stmts i x l ∙ ap (λ y. y ∷ drop (i + 1) stmts) (sym e) in
    and_parts (stmt_fits w (stmt_of x)) (block_fits w (block_of (map stmt_of (drop (i + 1) stmts)))) (sym (ap (λ ss. block_fits w (block_of (map stmt_of ss))) cut) ∙ h)
