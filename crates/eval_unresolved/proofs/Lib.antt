mod Returns
mod Joined
