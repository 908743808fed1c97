-- A path of a small model, computed from its bytes on.
use Rattle.std.specs.Prelude.{◌&&◌, List, [], ◌∷◌, ◌++◌, ℕ, ◌*◌, T, eqb, ℤ, pos, negsuc, replicate, take}
use Rattle.theory.specs.Listing as Listing
use Rattle.examples.specs.Examples as Examples
use Rattle.prune_paths.specs.Prune as Prune

-- a × L1 + b × L2 + c
abbrev linear₂ : ℕ → ℕ → ℕ → List ℕ
linear₂ a b c = Examples.bytes_of a ++ (Examples.bytes_of b ++ (replicate 24 0 ++ Examples.bytes_of c))

-- m 2, n 0, A 1, W 1: 1 where L1 + L2 ≤ 0, else 2 where L1 ≤ 0, else 3 where L2 ≤ 0, else 4; the levels stay
abbrev pub corner : List ℕ
corner =
    (0x02 ∷ 2 ∷ 0 ∷ 1 ∷ 0 ∷ 1 ∷ [])
    ++ ((0x10 ∷ linear₂ 0 0 1) ++ ((0x10 ∷ linear₂ 0 0 2) ++ ((0x10 ∷ linear₂ 0 0 3) ++ ((0x10 ∷ linear₂ 0 0 4)
    ++ ((0x12 ∷ linear₂ 0 1 0) ++ ((0x12 ∷ linear₂ 1 0 0) ++ ((0x12 ∷ linear₂ 1 1 0) ++ ((0x20 ∷ 1 ∷ 0 ∷ [])
    ++ ((0x10 ∷ linear₂ 1 0 0) ++ ((0x22 ∷ 1 ∷ 0 ∷ 1 ∷ []) ++ ((0x10 ∷ linear₂ 0 1 0) ++ (0x22 ∷ 1 ∷ 0 ∷ 2 ∷ 0xff ∷ []))))))))))))

-- a path of its stage, with room for N nodes
abbrev corner_path : ℕ → List ℕ → List ℤ → Prune.PruneOut
corner_path N turns ks =
    let o = Examples.solved corner 1 40 in
    Prune.prune corner (take (N * 12) o.nodes) o.stages (replicate (N * 8) 0) 1 turns ks

abbrev ones : List ℤ
ones = pos 1 ∷ pos 1 ∷ pos 1 ∷ []

-- ten nodes; L2 ≤ 0, L1 ≤ 0 and not L1 + L2 ≤ 0 cannot be; the node cut off stays in use on another path, so ten are left; the refusals that a path has of its own
pub corner_cut : T (
    eqb (Listing.greatest_root 8 (Examples.solved corner 1 40).stages) 10
    && (eqb (corner_path 12 (1 ∷ 1 ∷ 0 ∷ []) ones).number 0 && (eqb (Listing.greatest_root 8 (corner_path 12 (1 ∷ 1 ∷ 0 ∷ []) ones).stages) 10
    && (eqb (corner_path 11 (1 ∷ 1 ∷ 0 ∷ []) ones).number 12 && (eqb (corner_path 11 (1 ∷ 1 ∷ 0 ∷ []) ones).place 1
    && (eqb (corner_path 12 (1 ∷ 1 ∷ 1 ∷ []) ones).number 21 && (eqb (corner_path 12 (1 ∷ 1 ∷ 0 ∷ []) (negsuc 0 ∷ pos 1 ∷ pos 1 ∷ [])).number 21
    && (eqb (corner_path 12 (1 ∷ 1 ∷ 0 ∷ 0 ∷ []) ones).number 22 && (eqb (corner_path 12 (1 ∷ 1 ∷ 2 ∷ []) ones).number 22 && eqb (corner_path 12 [] []).number 22)))))))))
unfolding Examples.definitions Prune.leaf_at Prune.test_at Prune.tree_from Prune.fits Prune.with_side Prune.along Prune.turned Prune.added Prune.low_used
    Prune.contradicts Prune.proves Prune.cut Prune.remade Prune.stage_anew Prune.stages_anew Prune.words_anew Prune.shaped Prune.path_number Prune.path_needs
    Prune.prune_refusal Prune.pruned Prune.prune
corner_cut = tt
