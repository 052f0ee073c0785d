use Rattle.std.proofs.Common.{[], refl}
use Rattle.ac_seek.proofs.Answering.{holds-start}
use Rattle.ac_seek.proofs.Filling.{codes-start}
use Rattle.ac_seek.specs.Words.{game_of}
use Rattle.ac_trees.proofs.node.Node.root.Goals as goal

pub returns : goal.returns
returns c = record {
  at = record {
    held = holds-start (game_of c.args.table.now) [] refl;
    codes = λ channel b l m. codes-start [] channel b l m;
  };
}
