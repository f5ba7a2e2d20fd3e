use Rattle.std.proofs.Common.{◌≡◌, map, take}
use Rattle.ktree.specs.DirectiveView.{name_of, element_of}
use Rattle.pragma_region.proofs.sinks.offsets.Given as goal

-- those of the elements so far
abbrev pub invariant-loop-element : goal.invariant-loop-element
invariant-loop-element l = l.offsets.items ≡ map (λ e. e.1) (map (element_of name_of) (take l.element-index l.elements))
