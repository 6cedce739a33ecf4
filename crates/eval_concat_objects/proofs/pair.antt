mod Returns
