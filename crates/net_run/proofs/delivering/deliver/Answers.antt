use Rattle.net_run.proofs.delivering.deliver.Goals as goal

pub deliver_in-requires : goal.deliver_in-requires
deliver_in-requires c = c.new.ensures c.args.net.now
