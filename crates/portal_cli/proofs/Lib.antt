mod Around
mod Fetched
mod Statuses
