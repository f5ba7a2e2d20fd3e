-- Worked rows of what is written: outputs, listings, an erased text.
use Rattle.std.specs.Prelude.{ℕ, ◌≡◌, List, [], ◌∷◌, ◌++◌, Some, None, false, pos, negsuc, codes}
use Rattle.semantics.specs.Tree.{Object, Binary, Plus, no_exprs, more_exprs, Compare, Less, Number, Up, Characters, Decimal, For, Assign, Print, stmt, no_items, Kernel}
use Rattle.semantics.specs.Source.Text.{erase}
use Rattle.semantics.specs.Meaning.Output.{output}
use Rattle.semantics.specs.Loops.Operator.{Sum, Max}
use Rattle.semantics.specs.Directives.Directive.{StaticPlain, DynamicSize, GuidedSize}
use Rattle.semantics.specs.Directives.Listing.{ListedLoop, listing}
use Rattle.semantics.specs.Rows.Numbers.{var, num, filling}

-- a line and its end
abbrev pub line : List ℕ → List ℕ
line bs = bs ++ 10 ∷ []

-- uint64_t A[8]; for (i = 0; i < 8; i++) A[i] = A[i] + i;
abbrev pub counting_up : Kernel
counting_up =
    record {
      constants = [];
      variables = record { name = codes "A"; lengths = 8 ∷ [] } ∷ [];
      body = stmt (For 1 (codes "i") (Number (num 0)) (Compare Less (var 1) (num 8)) (Up 1) (Assign 0 (more_exprs (var 1) no_exprs) (Number (Binary Plus (Object 0 (more_exprs (var 1) no_exprs)) (var 1))))) no_items;
    }

-- uint64_t s; printf("%" PRIu64 ", 100%%\n", s + 7);
abbrev pub printing : Kernel
printing =
    record {
      constants = [];
      variables = record { name = codes "s"; lengths = [] } ∷ [];
      body = stmt (Print (Characters [] ∷ Decimal (Binary Plus (var 0) (num 7)) ∷ Characters (codes ", 100%" ++ 10 ∷ []) ∷ [])) no_items;
    }

-- a loop without sinks and reductions
abbrev pub plain_loop : ListedLoop
plain_loop = record { schedule = StaticPlain; doacross = None; sinks = []; reductions = []; scan = false }

-- the text of a loop with its directive, and the same with that line empty
abbrev pub shifted_text : List ℕ → List ℕ
shifted_text directive =
    line (codes "uint64_t A[8];") ++ line (codes "void kernel(void) {") ++ line directive
    ++ line (codes "for (uint64_t i = 1; i < 8; i++) { A[i] = A[i-1]; }") ++ line (codes "}")

-- the rows
pub record OutputRows : Type 0 where
  pub filled : output filling [] ≡ Some (line (codes "A = 5 6 7"))
  pub counted : output counting_up ((0, 1 ∷ 1 ∷ 1 ∷ 1 ∷ 1 ∷ 1 ∷ 1 ∷ 1 ∷ []) ∷ []) ≡ Some (line (codes "A = 1 2 3 4 5 6 7 8"))
  pub printed : output printing [] ≡ Some (line (codes "7, 100%") ++ line (codes "s = 0"))
  pub erased : erase (shifted_text (codes "#pragma omp parallel for")) ≡ shifted_text []
  pub dynamic :
      listing ((record plain_loop { schedule = DynamicSize 3 } ∷ []) ∷ [])
      ≡ line (codes "1.0 __kmpc_fork_call") ++ line (codes "1.1 __kmpc_dispatch_init_8u dynamic,3")
      ++ line (codes "1.1 __kmpc_dispatch_next_8u") ++ line (codes "1.1 __kmpc_barrier")
  pub doacross :
      listing ((record plain_loop { doacross = Some 2; sinks = (negsuc 0 ∷ pos 0 ∷ []) ∷ (pos 0 ∷ negsuc 0 ∷ []) ∷ [] } ∷ []) ∷ [])
      ≡ line (codes "1.0 __kmpc_fork_call") ++ line (codes "1.1 __kmpc_doacross_init 2") ++ line (codes "1.1 __kmpc_for_static_init_8u static")
      ++ line (codes "1.1 __kmpc_doacross_wait -1,0") ++ line (codes "1.1 __kmpc_doacross_wait 0,-1") ++ line (codes "1.1 __kmpc_doacross_post")
      ++ line (codes "1.1 __kmpc_for_static_fini") ++ line (codes "1.1 __kmpc_doacross_fini") ++ line (codes "1.1 __kmpc_barrier")
  pub reductions :
      listing ((record plain_loop { reductions = (codes "s", Sum) ∷ (codes "m", Max) ∷ [] } ∷ []) ∷ [])
      ≡ line (codes "1.0 __kmpc_fork_call") ++ line (codes "1.1 __kmpc_for_static_init_8u static") ++ line (codes "1.1 __kmpc_for_static_fini")
      ++ line (codes "1.1 __kmpc_reduce +:s max:m") ++ line (codes "1.1 __kmpc_end_reduce") ++ line (codes "1.1 __kmpc_barrier")
  pub two_loops :
      listing ((record plain_loop { schedule = GuidedSize 2 } ∷ plain_loop ∷ []) ∷ [])
      ≡ line (codes "1.0 __kmpc_fork_call") ++ line (codes "1.1 __kmpc_dispatch_init_8u guided,2") ++ line (codes "1.1 __kmpc_dispatch_next_8u")
      ++ line (codes "1.1 __kmpc_barrier") ++ line (codes "1.2 __kmpc_for_static_init_8u static") ++ line (codes "1.2 __kmpc_for_static_fini")
      ++ line (codes "1.2 __kmpc_barrier")
