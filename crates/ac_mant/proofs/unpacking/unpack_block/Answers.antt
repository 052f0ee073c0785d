use Rattle.ac_mant.proofs.Spelled.{low_pointers}
use Rattle.ac_mant.proofs.Clauses.{found_of, only_of, refused_of, refuses_of}
use Rattle.ac_mant.proofs.unpacking.unpack_block.Goals as goal

pub returns-clause-found : goal.returns-clause-found
returns-clause-found c =
    found_of c.read_codes.result c.args.baps.now c.read_codes.new.out c.args.source.now c.read_codes.new.source (low_pointers c.args.baps.now c.requires.pointers) c.read_codes.ensures

pub returns-clause-only : goal.returns-clause-only
returns-clause-only c = only_of c.read_codes.result c.args.baps.now c.read_codes.new.out c.args.source.now c.read_codes.new.source c.read_codes.ensures

pub returns-clause-refused : goal.returns-clause-refused
returns-clause-refused c =
    refused_of c.read_codes.result c.args.baps.now c.read_codes.new.out c.args.source.now c.read_codes.new.source (low_pointers c.args.baps.now c.requires.pointers) c.read_codes.ensures

pub returns-clause-refuses : goal.returns-clause-refuses
returns-clause-refuses c = refuses_of c.read_codes.result c.args.baps.now c.read_codes.new.out c.args.source.now c.read_codes.new.source c.read_codes.ensures
