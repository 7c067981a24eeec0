-- The first example, examples/c.ccn with examples/c.defs: its texts, and the trees that they read as. The clauses of
-- `example_reads`, `example_network` and `example_delivers` cite it.
use Rattle.std.specs.Prelude.{ℕ, ◌+◌, true, false, List, [], ◌∷◌, None, Some, codes}
use Rattle.cocoon_num.specs.Values.{less, equal, and_, truth}
use Rattle.cocoon_num.specs.Tree.{Name, Expr, name, field, lit, call, binary, no_exprs, expr, Stmt, if_, send, Block, no_stmts, stmt, Param, of_truth, a_function, a_role, a_host, a_switch, Design, literal, Entry, a_default, a_row, DefsText}

-- ---- the design

abbrev pub c_design : List ℕ
c_design = codes "packet { header e { tag: bit<8>; } }\nfunction h(a: bit<16>): bool;\nfunction g(s: bit<16>): bool;\nrole Out[a: bit<16>] | h(a) = { send SwIn[16w1, a]; }\nrole In[a: bit<16>] | h(a);\nhost (Out, In);\nrole SwIn[s: bit<16>, p: bit<16>] | g(s) and p < 16w4 = {\n  if (pkt.e.tag == 8w1) { send SwOut[s, 16w1]; } else { send SwOut[s, 16w2]; }\n}\nrole SwOut[s: bit<16>, p: bit<16>] | g(s) and p < 16w4 = { send In[p]; }\nswitch (SwIn, SwOut) ports 4;\n"

-- a name with its token index
abbrev named : ℕ → List ℕ → Name
named at text = record { at = at; text = text }

-- NAME: bit<16>
abbrev short : ℕ → List ℕ → Param
short at text = record { name = named at text; width = 16 }

-- a call with one argument, which is a variable
abbrev call_of : ℕ → List ℕ → ℕ → List ℕ → Expr
call_of at f k x = call at (named at f) (expr (name k x) no_exprs)

-- a block of one statement
abbrev only : Stmt → Block
only s = stmt s no_stmts

-- h(a)
abbrev c_host_guard : ℕ → Expr
c_host_guard at = call_of at (codes "h") (at + 2) (codes "a")

-- [s: bit<16>, p: bit<16>], the first name at this index
abbrev c_switch_params : ℕ → List Param
c_switch_params at = short at (codes "s") ∷ short (at + 7) (codes "p") ∷ []

-- g(s) and p < 16w4
abbrev c_switch_guard : ℕ → Expr
c_switch_guard at =
    binary at and_ (call_of at (codes "g") (at + 2) (codes "s")) (binary (at + 5) less (name (at + 5) (codes "p")) (lit (at + 7) 16 4))

-- { send SwOut[s, 16wPORT]; }
abbrev c_send_out : ℕ → ℕ → Block
c_send_out at port = only (send at (named (at + 1) (codes "SwOut")) (expr (name (at + 3) (codes "s")) (expr (lit (at + 5) 16 port) no_exprs)))

abbrev pub c_tree : Design
c_tree = record {
  headers = record { name = named 3 (codes "e"); fields = record { name = named 5 (codes "tag"); width = 8 } ∷ [] } ∷ [];
  decls =
      a_function (record { name = named 15 (codes "h"); params = short 17 (codes "a") ∷ []; result = of_truth; body = None })
      ∷ a_function (record { name = named 28 (codes "g"); params = short 30 (codes "s") ∷ []; result = of_truth; body = None })
      ∷ a_role (record {
        name = named 41 (codes "Out");
        params = short 43 (codes "a") ∷ [];
        guard = c_host_guard 51;
        body = Some (only (send 57 (named 58 (codes "SwIn")) (expr (lit 60 16 1) (expr (name 62 (codes "a")) no_exprs))));
      })
      ∷ a_role (record { name = named 67 (codes "In"); params = short 69 (codes "a") ∷ []; guard = c_host_guard 77; body = None })
      ∷ a_host (record { at = 82; entry = named 84 (codes "Out"); sink = named 86 (codes "In") })
      ∷ a_role (record {
        name = named 90 (codes "SwIn");
        params = c_switch_params 92;
        guard = c_switch_guard 107;
        body = Some (only (if_ 117 (binary 119 equal (field 119 (named 121 (codes "e")) (named 123 (codes "tag"))) (lit 125 8 1))
            (c_send_out 128 1) (c_send_out 139 2)));
      })
      ∷ a_role (record {
        name = named 150 (codes "SwOut");
        params = c_switch_params 152;
        guard = c_switch_guard 167;
        body = Some (only (send 177 (named 178 (codes "In")) (expr (name 180 (codes "p")) no_exprs)));
      })
      ∷ a_switch (record { at = 184; into = named 186 (codes "SwIn"); out = named 188 (codes "SwOut"); ports = 4 })
      ∷ [];
  refines = [];
}

-- ---- the definitions

abbrev pub c_defs : List ℕ
c_defs = codes "default h = false;\ndefault g = false;\ndefine h(16w0) = true;\ndefine h(16w1) = true;\ndefine h(16w2) = true;\ndefine h(16w3) = true;\ndefine g(16w1) = true;\n"

-- define FUNCTION(16wNUMBER) = true;
abbrev c_row : ℕ → List ℕ → ℕ → Entry
c_row at f n = a_row (named at f) (literal 16 n ∷ []) (truth true)

abbrev pub c_definitions : DefsText
c_definitions =
    a_default (named 1 (codes "h")) (truth false) ∷ a_default (named 6 (codes "g")) (truth false)
    ∷ c_row 11 (codes "h") 0 ∷ c_row 19 (codes "h") 1 ∷ c_row 27 (codes "h") 2 ∷ c_row 35 (codes "h") 3 ∷ c_row 43 (codes "g") 1 ∷ []
