-- The pairs that an environment holds, as layers.
use Rattle.scoped_env.specs.Words.{[]}
use Rattle.scoped_env.specs.{Layers.Layers, declared.env.Pairs.Pairs, declared.env.Pairs.TheVariants.Inherited, declared.env.Pairs.TheVariants.WithOwn}

-- an actor that has bound nothing itself has an empty stack
abbrev pub layers : Pairs → Layers
layers (Inherited pairs) = record { inherited = pairs; stack = [] }
layers (WithOwn own) = own.value
