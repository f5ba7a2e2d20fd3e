-- The worked rows.
use Rattle.std.specs.Prelude.{pos, [], ◌∷◌}
use Rattle.std.proofs.Common.{refl, inl, arith}
use Rattle.law_waves.specs.Rows.{chain_body, chain_loop}
use Rattle.law_turns.proofs.Joining.{contains_first}
use Rattle.law_doacross.specs.Rows.{DoacrossRows}

pub doacross_rows : DoacrossRows
doacross_rows =
    record {
      suits = record {
        loops = chain_loop ∷ [];
        body = chain_body;
        nest = refl;
        up = refl;
        silent = refl;
        ahead = refl;
        no_lasts = refl;
        no_reductions = refl;
        none_carried = refl;
      };
      by_two = refl;
      from_variable = refl;
      to_variable = refl;
      apart = record { sink = pos 1 ∷ []; named = contains_first (pos 1 ∷ []) []; times = 2; once = omega arith; behind = inl (refl, tt) };
    }
