use Rattle.msl_matrix.proofs.Placed.{few_places}
use Rattle.msl_matrix.proofs.matrix.DistMatrix.fold.Goals as goal

pub new-work-requires : goal.new-work-requires
new-work-requires g c = few_places c.args.self.now.extent c.blocks-2.result.now c.blocks-2.ensures.blocks
